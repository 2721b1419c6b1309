-- The rest of x * y + z over the hardware's sum t, as one word (`residual_law`), and t plus the float that a cut rest stands for (`last_sum`).
use Rattle.std.proofs.Common.{◌≡◌, ℕ, ◌+◌, ◌-◌, ◌*◌, ◌%◌, ◌^◌, ◌<◌, ◌≤◌, Bool, true, false, cond, not, ◌⊎◌, sym, ◌∙◌, inl, inr, eq-zero-or-pos, eq-or-lt_of_le, zero-mul, arith}
use lib.Ieee.{Float, binary64, unlike, round, add}
use lib.Ieee.Exact.{HasValue}
use Rattle.fused_guided.specs.Guided.{Residual}
use Rattle.fused_multiply_add.specs.Residual.{Fits, added, taken}
use Rattle.binary64.proofs.Values.{add-units}
use Rattle.fused_guided.proofs.Laws.Terms.{units_shift}
use Rattle.fused_guided.proofs.Laws.Guided.{sum_is}
use Rattle.binary64.specs.Format.{lowest}
use Rattle.binary64.specs.Nearest.{den}

-- ---- the rest as one word

-- a word of -a or a, where its argument was the low word of a
turned : (c : Bool) (a p q : ℕ) → p ≡ a % 2 ^ 64 → (q + cond c p 0) % 2 ^ 64 ≡ cond c 0 p → (q + cond c a 0) % 2 ^ 64 ≡ cond c 0 a % 2 ^ 64
turned true a p q P Q = omega arith
turned false a p q P Q = omega arith

words_add : (a b c d : ℕ) → a % 2 ^ 64 ≡ b % 2 ^ 64 → c % 2 ^ 64 ≡ d % 2 ^ 64 → (a + c) % 2 ^ 64 ≡ (b + d) % 2 ^ 64
words_add a b c d h k = omega arith

-- of words with p = a - b and y = z - e: p + y, that less t, and 2 ^ 63 more
first_word : (b a e z p y lo : ℕ) → (p + b) % 2 ^ 64 ≡ a % 2 ^ 64 → (y + e) % 2 ^ 64 ≡ z % 2 ^ 64 → lo ≡ (p + y) % 2 ^ 64
    → (lo + (b + e)) % 2 ^ 64 ≡ (a + z) % 2 ^ 64
first_word b a e z p y lo P Y L = sort b e p y lo L ∙ words_add (p + b) a (y + e) z P Y
  where
    sort : (b e p y lo : ℕ) → lo ≡ (p + y) % 2 ^ 64 → (lo + (b + e)) % 2 ^ 64 ≡ (p + b + (y + e)) % 2 ^ 64
    sort b e p y lo h = omega arith

second_word : (b a t lo c d : ℕ) → (lo + b) % 2 ^ 64 ≡ a % 2 ^ 64 → c ≡ t % 2 ^ 64 → (d + c) % 2 ^ 64 ≡ lo → (d + (t + b)) % 2 ^ 64 ≡ a % 2 ^ 64
second_word b a t lo c d L C D = sort b t lo c d C D ∙ L
  where
    sort : (b t lo c d : ℕ) → c ≡ t % 2 ^ 64 → (d + c) % 2 ^ 64 ≡ lo → (d + (t + b)) % 2 ^ 64 ≡ (lo + b) % 2 ^ 64
    sort b t lo c d C D = omega arith

third-word : (m n d r : ℕ) → (d + m) % 2 ^ 64 ≡ n % 2 ^ 64 → r ≡ (d + 2 ^ 63) % 2 ^ 64 → (r + m) % 2 ^ 64 ≡ (n + 2 ^ 63) % 2 ^ 64
third-word m n d r D R = omega arith

window : (x y t : ℕ) → x % 2 ^ 64 ≡ y % 2 ^ 64 → t ≤ x → x < t + 2 ^ 64 → t ≤ y → y < t + 2 ^ 64 → x ≡ y
window x y t e a b c d = omega arith

-- p, y and c are the low words of a, z and t, and p' and y' those of ±a and ±z
pub residual_law : (cp cz : Bool) (a z t p p' y y' lo c d r : ℕ) → p ≡ a % 2 ^ 64 → (p' + cond cp p 0) % 2 ^ 64 ≡ cond cp 0 p
    → y ≡ z % 2 ^ 64 → (y' + cond cz y 0) % 2 ^ 64 ≡ cond cz 0 y → lo ≡ (p' + y') % 2 ^ 64 → c ≡ t % 2 ^ 64 → (d + c) % 2 ^ 64 ≡ lo
    → r ≡ (d + 2 ^ 63) % 2 ^ 64 → Fits cp a cz z t → r + taken cp a cz z t ≡ added cp a cz z + 2 ^ 63
residual_law cp cz a z t p p' y y' lo c d r P P' Y Y' LO C D R f =
    let m = taken cp a cz z t in
    let n = added cp a cz z in
    window (r + m) (n + 2 ^ 63) m
    (third-word m n d r
    (second_word (cond cp a 0 + cond cz z 0) n t lo c d
    (first_word (cond cp a 0) (cond cp 0 a) (cond cz z 0) (cond cz 0 z) p' y' lo (turned cp a p p' P P') (turned cz z y y' Y Y') LO) C D) R)
    (low r m) (high r m d R) (lower m n f.lower) (upper m n f.upper)
  where
    low : (r t : ℕ) → t ≤ r + t
    low r t = omega arith

    high : (r t d : ℕ) → r ≡ (d + 2 ^ 63) % 2 ^ 64 → r + t < t + 2 ^ 64
    high r t d e = omega arith

    lower : (t a : ℕ) → t < a + 2 ^ 63 → t ≤ a + 2 ^ 63
    lower t a h = omega arith

    upper : (t a : ℕ) → a < t + 2 ^ 63 → a + 2 ^ 63 < t + 2 ^ 64
    upper t a h = omega arith

-- ---- the last sum

-- t of the sign s and d of the sign q, in units of 2 ^ (b - 2148)
signed-sum : (t d : Float) (s q : Bool) (w v c e b y : ℕ) → HasValue t s w (2 ^ lowest) → HasValue d q v (2 ^ lowest) → w * 2 ^ lowest ≡ c * 2 ^ b
    → v * 2 ^ lowest ≡ e * 2 ^ b → 0 < y → y + cond (unlike q s) e 0 ≡ c + cond (unlike q s) 0 e
    → add binary64 t d ≡ round binary64 s (y * 2 ^ b) den
signed-sum t d s q w v c e b y W D C E some total =
    add-units t d s q w v (c * 2 ^ b) (e * 2 ^ b) W D C E ∙ sym (sum_is y c e b some s q s (own s (cond (unlike q s) e 0) (cond (unlike q s) 0 e) total))
  where
    plus : (m n : ℕ) → y + m ≡ c + n → y + (0 + m) ≡ c + n
    plus m n e = omega arith

    own : (s : Bool) (m n : ℕ) → y + m ≡ c + n → y + (cond (unlike s s) c 0 + m) ≡ cond (unlike s s) 0 c + n
    own true m n e = plus m n e
    own false m n e = plus m n e

-- t and the rest that a cut word f stands for
pub last_sum : (t d : Float) (s : Bool) (w f e c b y : ℕ) → HasValue t s w (2 ^ lowest) → Residual s d f e → e - 1 + lowest ≡ 12 + b → w * 2 ^ lowest ≡ c * 2 ^ b
    → 0 < y → y + 2 ^ 63 ≡ c + f * 4096 → add binary64 t d ≡ round binary64 s (y * 2 ^ b) den
last_sum t d s w f e c b y W R E C some Y = go (three f (2 ^ 51))
  where
    three : (a b : ℕ) → (b < a) ⊎ ((a ≡ b) ⊎ (a < b))
    three a b = elim (eq-zero-or-pos (a - b)) [
      | inl h ↦ inr (elim (eq-or-lt_of_le (sub_zero a b h)) [ inl e ↦ inl e | inr l ↦ inr l ])
      | inr h ↦ inl (sub-some a b h)
    ]
      where
        sub_zero : (a b : ℕ) → a - b ≡ 0 → a ≤ b
        sub_zero a b h = omega arith

        sub-some : (a b : ℕ) → 0 < a - b → b < a
        sub-some a b h = omega arith

    part : (n : ℕ) → n * 2 ^ (e - 1) * 2 ^ lowest ≡ n * 4096 * 2 ^ b
    part n = units_shift n (e - 1) lowest 12 b E

    up_is : (s : Bool) (y c f : ℕ) → y + 2 ^ 63 ≡ c + f * 4096 → 2 ^ 51 < f
        → y + cond (unlike s s) ((f - 2 ^ 51) * 4096) 0 ≡ c + cond (unlike s s) 0 ((f - 2 ^ 51) * 4096)
    up_is true y c f e h = omega arith
    up_is false y c f e h = omega arith

    same_is : (s : Bool) (y c f : ℕ) → y + 2 ^ 63 ≡ c + f * 4096 → f ≡ 2 ^ 51 → y + cond (unlike false s) 0 0 ≡ c + cond (unlike false s) 0 0
    same_is true y c f e h = omega arith
    same_is false y c f e h = omega arith

    down_is : (s : Bool) (y c f : ℕ) → y + 2 ^ 63 ≡ c + f * 4096 → f < 2 ^ 51
        → y + cond (unlike (not s) s) ((2 ^ 51 - f) * 4096) 0 ≡ c + cond (unlike (not s) s) 0 ((2 ^ 51 - f) * 4096)
    down_is true y c f e h = omega arith
    down_is false y c f e h = omega arith

    go : (2 ^ 51 < f) ⊎ ((f ≡ 2 ^ 51) ⊎ (f < 2 ^ 51)) → add binary64 t d ≡ round binary64 s (y * 2 ^ b) den
    go (inl h) =
        signed-sum t d s s w ((f - 2 ^ 51) * 2 ^ (e - 1)) c ((f - 2 ^ 51) * 4096) b y W (R.plus h) C (part (f - 2 ^ 51)) some (up_is s y c f Y h)
    go (inr (inl h)) = signed-sum t d s false w 0 c 0 b y W (R.none h) C (zero-mul (2 ^ lowest) ∙ sym (zero-mul (2 ^ b))) some (same_is s y c f Y h)
    go (inr (inr h)) =
        signed-sum t d s (not s) w ((2 ^ 51 - f) * 2 ^ (e - 1)) c ((2 ^ 51 - f) * 4096) b y W (R.minus h) C (part (2 ^ 51 - f)) some (down_is s y c f Y h)
