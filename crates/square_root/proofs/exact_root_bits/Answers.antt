-- The pattern’s significand, shifted up to an even exponent, is m; r is nearest to the root of m * 2 ^ 52, so `root_law` says which pattern the root has.
use Rattle.std.proofs.Common.{◌≡◌, ℕ, ◌+◌, ◌-◌, ◌*◌, ◌%◌, ◌^◌, ◌<◌, ◌≤◌, sym, subst, arith}
use Rattle.binary64.specs.Pattern.{significand_of, exponent_of}
use Rattle.binary64.specs.Operations.{sqrt}
use Rattle.binary64.specs.Nearest.{NearRoot, Scaled, Digits}
use Rattle.binary64.proofs.Root.Pattern.{scaled, root_law}
use Rattle.square_root.proofs.Words.{shl_twice}
use Rattle.square_root.proofs.exact_root_bits.Goals as goal

pub near_root-r-requires : goal.near_root-r-requires
near_root-r-requires c =
    let t = c.significand-t.result in
    let z = c.shift-z.result in
    let d = c.exponent.result + 52 - z in
    let l : 2 ^ 52 ≤ t * 2 ^ z = c.shift-z.ensures.trailing_bound.0 in
    let h : t * 2 ^ z < 2 ^ 53 = c.shift-z.ensures.trailing_bound.1 in
    let e : d % 2 < 2 = omega arith in
    subst Scaled (sym (shl_twice (t * 2 ^ z) (d % 2) l h e)) (scaled (t * 2 ^ z) (d % 2) l h e)

pub returns-clause-value : goal.returns-clause-value
unfolding sqrt
returns-clause-value c =
    let b = c.args.b in
    let t = c.significand-t.result in
    let z = c.shift-z.result in
    let k = c.exponent.result in
    let d = k + 52 - z in
    let r = c.near_root-r.result in
    let l : 2 ^ 52 ≤ t * 2 ^ z = c.shift-z.ensures.trailing_bound.0 in
    let h : t * 2 ^ z < 2 ^ 53 = c.shift-z.ensures.trailing_bound.1 in
    let e : d % 2 < 2 = omega arith in
    let s : t * 2 ^ z % 2 ^ 64 * 2 ^ (d % 2) % 2 ^ 64 ≡ t * 2 ^ z * 2 ^ (d % 2) = shl_twice (t * 2 ^ z) (d % 2) l h e in
    let nr : NearRoot (t * 2 ^ z * 2 ^ (d % 2) * 2 ^ 52) r = subst (λ (m : ℕ). NearRoot (m * 2 ^ 52) r) s c.near_root-r.ensures.near_root in
    let dg : Digits r = c.near_root-r.ensures.digits in
    let te : t ≡ significand_of b = c.significand-t.ensures.value in
    let ke : k ≡ exponent_of b = c.exponent.ensures in
    let tp : 0 < t = c.significand-t.ensures.result_nonzero.0 in
    let ek : d + z ≡ exponent_of b + 52 = omega arith in
    sym (root_law b z d r (omega arith) (subst (λ (x : ℕ). 0 < x) te tp) ek
    (subst (λ (x : ℕ). Scaled (x * 2 ^ z * 2 ^ (d % 2))) te (scaled (t * 2 ^ z) (d % 2) l h e))
    dg
    (subst (λ (x : ℕ). NearRoot (x * 2 ^ z * 2 ^ (d % 2) * 2 ^ 52) r) te nr))
