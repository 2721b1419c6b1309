-- quadrature.rs: Dunavant's rules on the reference triangle, a row being weight, u, v. Definitions only.
use Rattle.std.specs.Prelude.{ℕ, ◌<◌, ◌≡◌, ◌⊎◌, Bool, true, false, cond, eqb, List, [], ◌∷◌, get_or, length, Float}
use Rattle.binary64.specs.Binary64.{◌⊘◌, bits, one, two, three, six}
use Rattle.tri.specs.declared.quadrature.QuadratureKind.{QuadratureKind}
use Rattle.tri.specs.declared.quadrature.QuadratureKind.TheVariants.{Dunavant1, Dunavant2, Dunavant3, Dunavant4, Dunavant5}
use Rattle.std.specs.Prelude.{Option, Some, None}

-- ---- the tables' numbers
abbrev forty_eight : Float
forty_eight = bits 0x4048_0000_0000_0000

abbrev pub third : Float
third = one ⊘ three

abbrev pub sixth : Float
sixth = one ⊘ six

abbrev pub two_thirds : Float
two_thirds = two ⊘ three

-- −27/48
abbrev pub centre3 : Float
centre3 = bits 0xc03b_0000_0000_0000 ⊘ forty_eight

-- 25/48
abbrev pub outer3 : Float
outer3 = bits 0x4039_0000_0000_0000 ⊘ forty_eight

-- 0.2
abbrev pub fifth : Float
fifth = bits 0x3fc9_9999_9999_999a

-- 0.6
abbrev pub three_fifths : Float
three_fifths = bits 0x3fe3_3333_3333_3333

-- ---- the tables
unfoldable pub dunavant4 : List (List Float)
dunavant4 =
    let w1 = bits 0x3fcc_97c4_9719_07bb in  -- 0.223381589678011
    let a1 = bits 0x3fdc_8a6b_8a0b_d0dc in  -- 0.445948490915965
    let b1 = bits 0x3fbb_aca3_afa1_7920 in  -- 0.108103018168070
    let w2 = bits 0x3fbc_25cc_2723_45c7 in  -- 0.109951743655322
    let a2 = bits 0x3fb7_7189_ea1d_b0db in  -- 0.091576213509771
    let b2 = bits 0x3fea_239d_8578_93d2 in  -- 0.816847572980459
    (w1 ∷ a1 ∷ a1 ∷ []) ∷ (w1 ∷ b1 ∷ a1 ∷ []) ∷ (w1 ∷ a1 ∷ b1 ∷ [])
    ∷ (w2 ∷ a2 ∷ a2 ∷ []) ∷ (w2 ∷ b2 ∷ a2 ∷ []) ∷ (w2 ∷ a2 ∷ b2 ∷ []) ∷ []

-- the centre is 0.333333333333333, which is not 1/3
unfoldable pub dunavant5 : List (List Float)
dunavant5 =
    let w0 = bits 0x3fcc_cccc_cccc_cccd in  -- 0.225000000000000
    let a0 = bits 0x3fd5_5555_5555_554f in  -- 0.333333333333333
    let w1 = bits 0x3fc0_f24a_a634_41e1 in  -- 0.132394152788506
    let a1 = bits 0x3fde_16ce_bd73_8bbf in  -- 0.470142064105115
    let b1 = bits 0x3fae_9314_28c7_4410 in  -- 0.059715871789770
    let w2 = bits 0x3fc0_1ec6_6adc_cf48 in  -- 0.125939180544828
    let a2 = bits 0x3fb9_ede9_9c7a_f577 in  -- 0.101286507323456
    let b2 = bits 0x3fe9_8485_98e1_4299 in  -- 0.797426985353087
    (w0 ∷ a0 ∷ a0 ∷ [])
    ∷ (w1 ∷ a1 ∷ a1 ∷ []) ∷ (w1 ∷ b1 ∷ a1 ∷ []) ∷ (w1 ∷ a1 ∷ b1 ∷ [])
    ∷ (w2 ∷ a2 ∷ a2 ∷ []) ∷ (w2 ∷ b2 ∷ a2 ∷ []) ∷ (w2 ∷ a2 ∷ b2 ∷ []) ∷ []

unfoldable pub quadrature_points : QuadratureKind → List (List Float)
quadrature_points Dunavant1 = (one ∷ third ∷ third ∷ []) ∷ []
quadrature_points Dunavant2 = (third ∷ sixth ∷ sixth ∷ []) ∷ (third ∷ two_thirds ∷ sixth ∷ []) ∷ (third ∷ sixth ∷ two_thirds ∷ []) ∷ []
quadrature_points Dunavant3 =
    (centre3 ∷ third ∷ third ∷ [])
    ∷ (outer3 ∷ fifth ∷ fifth ∷ []) ∷ (outer3 ∷ three_fifths ∷ fifth ∷ []) ∷ (outer3 ∷ fifth ∷ three_fifths ∷ []) ∷ []
quadrature_points Dunavant4 = dunavant4
quadrature_points Dunavant5 = dunavant5

abbrev pub quadrature_count : QuadratureKind → ℕ
quadrature_count kind = length (quadrature_points kind)

-- the most points that a rule has
abbrev pub max_points : ℕ
max_points = 7

abbrev pub quadrature_row : QuadratureKind → ℕ → List Float
quadrature_row kind k = get_or (quadrature_points kind) k []

-- what a rule's number stands for, if anything
abbrev pub Rule : Type 0
Rule = Option QuadratureKind

-- the rule of document 01's number; any number but 1 to 5 is refused with 12
unfoldable pub quadrature_rule : ℕ → Rule
quadrature_rule number =
    cond (eqb number 1) (Some Dunavant1)
    (cond (eqb number 2) (Some Dunavant2)
    (cond (eqb number 3) (Some Dunavant3)
    (cond (eqb number 4) (Some Dunavant4)
    (cond (eqb number 5) (Some Dunavant5)
    None))))

-- a number that is no rule's
abbrev pub NoSuchRule : ℕ → Type 0
NoSuchRule number = (number ≡ 0) ⊎ (5 < number)

-- 12
abbrev pub is_unknown : Rule → Bool
is_unknown (Some kind) = false
is_unknown None = true
