pub mod LittleEndian
pub mod PanelFile
pub mod Conditions
