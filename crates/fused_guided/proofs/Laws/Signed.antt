-- ±p ± z in two's complement, of numbers of two words: what `signed_sum` computes is the exact sum where that is not negative, and has its top bit set where it
-- is. Of a difference the larger, b, is turned over before the sum with a, and the sum after it: −((−b − 1) + a) − 1 is b − a.
use Rattle.std.proofs.Common.{◌≡◌, ℕ, ◌+◌, ◌-◌, ◌*◌, ◌^◌, ◌<◌, ◌≤◌, Bool, true, false, cond, refl, ap, ◌∙◌, subst, add_comm, arith}
use lib.Ieee.{unlike}
use Rattle.fused_guided.specs.Guided.{signed_sum, SignedWords}

-- ---- ±p ± z in two's complement: k is carried from the low words' sum l to the high words', h, and j is lost

abbrev turned : Bool → ℕ → ℕ
turned c a = cond c (2 ^ 64 - 1 - a) a

plus-plus : (ph pl zh zl k l j h : ℕ) → ph < 2 ^ 62 → zh < 2 ^ 62 → k ≤ 1 → k * 2 ^ 64 + l ≡ pl + zl → j * 2 ^ 64 + h ≡ ph + zh + k
    → h * 2 ^ 64 + l + (0 + 0) ≡ ph * 2 ^ 64 + pl + (zh * 2 ^ 64 + zl)
plus-plus ph pl zh zl k l j h P Z K a b = join ph pl zh zl k l h a (high ph zh j h k P Z K b)
  where
    high : (ph zh j h k : ℕ) → ph < 2 ^ 62 → zh < 2 ^ 62 → k ≤ 1 → j * 2 ^ 64 + h ≡ ph + zh + k → h ≡ ph + zh + k
    high ph zh j h k P Z K b = omega arith

    join : (ph pl zh zl k l h : ℕ) → k * 2 ^ 64 + l ≡ pl + zl → h ≡ ph + zh + k → h * 2 ^ 64 + l + (0 + 0) ≡ ph * 2 ^ 64 + pl + (zh * 2 ^ 64 + zl)
    join ph pl zh zl k l h a b = omega arith

-- b - a, of which b was turned over
module _ (bh bl ah al k l j h : ℕ) (B : bh < 2 ^ 62) (A : ah < 2 ^ 62) (L : bl < 2 ^ 64) (K : k ≤ 1) (M : l < 2 ^ 64) (N : h < 2 ^ 64)
    (H : 2 ^ 64 - 1 - h < 2 ^ 63)
    (a : k * 2 ^ 64 + l ≡ 2 ^ 64 - 1 - bl + al) (b : j * 2 ^ 64 + h ≡ 2 ^ 64 - 1 - bh + ah + k) where
  difference : (2 ^ 64 - 1 - h) * 2 ^ 64 + (2 ^ 64 - 1 - l) + (ah * 2 ^ 64 + al) ≡ bh * 2 ^ 64 + bl
  difference = join bh bl ah al k (2 ^ 64 - 1 - l) (2 ^ 64 - 1 - h) (low bl al k l L M a) (high bh ah j h k B A K N H b)
    where
      low : (bl al k l : ℕ) → bl < 2 ^ 64 → l < 2 ^ 64 → k * 2 ^ 64 + l ≡ 2 ^ 64 - 1 - bl + al → k * 2 ^ 64 + bl ≡ al + (2 ^ 64 - 1 - l)
      low bl al k l L M a = omega arith

      high : (bh ah j h k : ℕ) → bh < 2 ^ 62 → ah < 2 ^ 62 → k ≤ 1 → h < 2 ^ 64 → 2 ^ 64 - 1 - h < 2 ^ 63 → j * 2 ^ 64 + h ≡ 2 ^ 64 - 1 - bh + ah + k
          → bh ≡ (2 ^ 64 - 1 - h) + ah + k
      high bh ah j h k B A K N H b = omega arith

      join : (bh bl ah al k lo hi : ℕ) → k * 2 ^ 64 + bl ≡ al + lo → bh ≡ hi + ah + k → hi * 2 ^ 64 + lo + (ah * 2 ^ 64 + al) ≡ bh * 2 ^ 64 + bl
      join bh bl ah al k lo hi a b = omega arith

never : (ph zh k j h : ℕ) → ph < 2 ^ 62 → zh < 2 ^ 62 → k ≤ 1 → h < 2 ^ 63 → j * 2 ^ 64 + h ≡ 2 ^ 64 - 1 - ph + (2 ^ 64 - 1 - zh) + k → ⊥
never ph zh k j h P Z K H b = omega arith

by_signs : (cp cz : Bool) (ph pl zh zl k l j h : ℕ) → ph < 2 ^ 62 → zh < 2 ^ 62 → pl < 2 ^ 64 → zl < 2 ^ 64 → k ≤ 1 → l < 2 ^ 64 → h < 2 ^ 64
    → turned (unlike cp cz) h < 2 ^ 63
    → k * 2 ^ 64 + l ≡ turned cz pl + turned cp zl → j * 2 ^ 64 + h ≡ turned cz ph + turned cp zh + k
    → turned (unlike cp cz) h * 2 ^ 64 + turned (unlike cp cz) l + (cond cp (ph * 2 ^ 64 + pl) 0 + cond cz (zh * 2 ^ 64 + zl) 0) ≡ cond cp 0
    (ph * 2 ^ 64 + pl) + cond cz 0 (zh * 2 ^ 64 + zl)
by_signs false false ph pl zh zl k l j h P Z L M K O N H a b = plus-plus ph pl zh zl k l j h P Z K a b
by_signs false true ph pl zh zl k l j h P Z L M K O N H a b =
    drop₁ ((2 ^ 64 - 1 - h) * 2 ^ 64 + (2 ^ 64 - 1 - l)) (zh * 2 ^ 64 + zl) (ph * 2 ^ 64 + pl) (difference ph pl zh zl k l j h P Z L K O N H a b)
  where
    drop₁ : (x y z : ℕ) → x + y ≡ z → x + (0 + y) ≡ z + 0
    drop₁ x y z e = omega arith
by_signs true false ph pl zh zl k l j h P Z L M K O N H a b =
    drop₂ ((2 ^ 64 - 1 - h) * 2 ^ 64 + (2 ^ 64 - 1 - l)) (ph * 2 ^ 64 + pl) (zh * 2 ^ 64 + zl)
    (difference zh zl ph pl k l j h Z P M K O N H (a ∙ add_comm pl (2 ^ 64 - 1 - zl)) (b ∙ ap (λ (x : ℕ). x + k) (add_comm ph (2 ^ 64 - 1 - zh))))
  where
    drop₂ : (x y z : ℕ) → x + y ≡ z → x + (y + 0) ≡ 0 + z
    drop₂ x y z e = omega arith
by_signs true true ph pl zh zl k l j h P Z L M K O N H a b = absurd (never ph zh k j h P Z K H b)

-- ---- as a sum, and as a negative one

value : (cp cz : Bool) (p z x : ℕ) → x + (cond cp p 0 + cond cz z 0) ≡ cond cp 0 p + cond cz 0 z → x ≡ signed_sum cp p cz z
value false false p z x e = omega arith
value false true p z x e = omega arith
value true false p z x e = omega arith
value true true p z x e = omega arith

-- the top bit is set only where the larger was subtracted
top_set : (bh bl ah al k l j h : ℕ) → bh < 2 ^ 62 → ah < 2 ^ 62 → bl < 2 ^ 64 → k ≤ 1 → l < 2 ^ 64 → h < 2 ^ 64
    → k * 2 ^ 64 + l ≡ 2 ^ 64 - 1 - bl + al → j * 2 ^ 64 + h ≡ 2 ^ 64 - 1 - bh + ah + k → 2 ^ 63 ≤ 2 ^ 64 - 1 - h
    → bh * 2 ^ 64 + bl - (ah * 2 ^ 64 + al) ≡ 0
top_set bh bl ah al k l j h B A L K M N a b H = none bh bl ah al k (high bh ah j h k B A K N H b) (low bl al k l L M a)
  where
    low : (bl al k l : ℕ) → bl < 2 ^ 64 → l < 2 ^ 64 → k * 2 ^ 64 + l ≡ 2 ^ 64 - 1 - bl + al → k * 2 ^ 64 + bl < 2 ^ 64 + al
    low bl al k l L M a = omega arith

    high : (bh ah j h k : ℕ) → bh < 2 ^ 62 → ah < 2 ^ 62 → k ≤ 1 → h < 2 ^ 64 → 2 ^ 63 ≤ 2 ^ 64 - 1 - h
        → j * 2 ^ 64 + h ≡ 2 ^ 64 - 1 - bh + ah + k → bh + 1 ≤ ah + k
    high bh ah j h k B A K N H b = omega arith

    none : (bh bl ah al k : ℕ) → bh + 1 ≤ ah + k → k * 2 ^ 64 + bl < 2 ^ 64 + al → bh * 2 ^ 64 + bl - (ah * 2 ^ 64 + al) ≡ 0
    none bh bl ah al k a b = omega arith

minus : (cp cz : Bool) (ph pl zh zl k l j h : ℕ) → ph < 2 ^ 62 → zh < 2 ^ 62 → pl < 2 ^ 64 → zl < 2 ^ 64 → k ≤ 1 → l < 2 ^ 64 → h < 2 ^ 64
    → 2 ^ 63 ≤ turned (unlike cp cz) h → k * 2 ^ 64 + l ≡ turned cz pl + turned cp zl → j * 2 ^ 64 + h ≡ turned cz ph + turned cp zh + k
    → signed_sum cp (ph * 2 ^ 64 + pl) cz (zh * 2 ^ 64 + zl) ≡ 0
minus false false ph pl zh zl k l j h P Z L M K O N H a b = absurd (small ph zh k j h P Z K H b)
  where
    small : (ph zh k j h : ℕ) → ph < 2 ^ 62 → zh < 2 ^ 62 → k ≤ 1 → 2 ^ 63 ≤ h → j * 2 ^ 64 + h ≡ ph + zh + k → ⊥
    small ph zh k j h P Z K H b = omega arith
minus false true ph pl zh zl k l j h P Z L M K O N H a b = top_set ph pl zh zl k l j h P Z L K O N a b H
minus true false ph pl zh zl k l j h P Z L M K O N H a b =
    top_set zh zl ph pl k l j h Z P M K O N (a ∙ add_comm pl (2 ^ 64 - 1 - zl)) (b ∙ ap (λ (x : ℕ). x + k) (add_comm ph (2 ^ 64 - 1 - zh))) H
minus true true ph pl zh zl k l j h P Z L M K O N H a b = refl

-- ---- the law: al and cl, ah and ch are the words turned over, k the carry of the low ones, h the high ones' sum with it

pub sum_law : (cp cz c : Bool) (ph pl zh zl al cl ah ch k l i g j h hi lo : ℕ) → ph < 2 ^ 62 → zh < 2 ^ 62 → pl < 2 ^ 64 → zl < 2 ^ 64
    → al ≡ cond cz (2 ^ 64 - 1 - pl) pl → cl ≡ cond cp (2 ^ 64 - 1 - zl) zl → ah ≡ cond cz (2 ^ 64 - 1 - ph) ph → ch ≡ cond cp (2 ^ 64 - 1 - zh) zh
    → c ≡ unlike cp cz
    → k * 2 ^ 64 + l ≡ al + cl → l < 2 ^ 64 → k ≤ 1 → i * 2 ^ 64 + g ≡ ah + ch → j * 2 ^ 64 + h ≡ g + k → h < 2 ^ 64
    → hi ≡ cond c (2 ^ 64 - 1 - h) h → lo ≡ cond c (2 ^ 64 - 1 - l) l
    → SignedWords cp (ph * 2 ^ 64 + pl) cz (zh * 2 ^ 64 + zl) hi lo
sum_law cp cz c ph pl zh zl al cl ah ch k l i g j h hi lo P Z L M AL CL AH CH C e₁ O K e₂ e₃ N HI LO =
    let hi-is : hi ≡ turned (unlike cp cz) h = HI ∙ ap (λ (b : Bool). turned b h) C in
    let lo-is : lo ≡ turned (unlike cp cz) l = LO ∙ ap (λ (b : Bool). turned b l) C in
    let low : k * 2 ^ 64 + l ≡ turned cz pl + turned cp zl = e₁ ∙ ap (λ (x : ℕ). x + cl) AL ∙ ap (λ (x : ℕ). turned cz pl + x) CL in
    let high : (i + j) * 2 ^ 64 + h ≡ turned cz ph + turned cp zh + k =
    highs ah ch k i g j h e₂ e₃ ∙ ap (λ (x : ℕ). x + ch + k) AH ∙ ap (λ (x : ℕ). turned cz ph + x + k) CH in
    record {
      value = λ H.
          ap (λ (x : ℕ). x * 2 ^ 64 + lo) hi-is
          ∙ ap (λ (x : ℕ). turned (unlike cp cz) h * 2 ^ 64 + x) lo-is
          ∙ value cp cz (ph * 2 ^ 64 + pl) (zh * 2 ^ 64 + zl) (turned (unlike cp cz) h * 2 ^ 64 + turned (unlike cp cz) l)
          (by_signs cp cz ph pl zh zl k l (i + j) h P Z L M K O N (subst (λ (x : ℕ). x < 2 ^ 63) hi-is H) low high);
      minus = λ H. minus cp cz ph pl zh zl k l (i + j) h P Z L M K O N (subst (λ (x : ℕ). 2 ^ 63 ≤ x) hi-is H) low high;
    }
  where
    highs : (ah ch k i g j h : ℕ) → i * 2 ^ 64 + g ≡ ah + ch → j * 2 ^ 64 + h ≡ g + k → (i + j) * 2 ^ 64 + h ≡ ah + ch + k
    highs ah ch k i g j h a b = omega arith
