-- `guided_is` says when the answer is given, `bits_law` that it is then the bits of the rounded sum.
use Rattle.std.proofs.Common.{◌≡◌, ℕ, ◌+◌, ◌-◌, ◌*◌, ◌%◌, ◌^◌, ◌<◌, ◌≤◌, Some, Bool, ◌&&◌, sym, refl, ap, ◌∙◌, arith}
use mir.Facts.{Fits-below}
use lib.Ieee.{unlike}
use Rattle.fused_guided.specs.Guided.{field, leads, signed_sum, significand, word_bias}
use Rattle.fused_guided.proofs.Laws.Tests.{Reach, reach_is}
use Rattle.fused_guided.proofs.Laws.Terms.{field_lt}
use Rattle.fused_guided.proofs.Laws.Guided.{bits_law, exact_of, guided_is, guided_no, sig_le, exponent-room, none_leads, some_leads}
use Rattle.binary64.specs.Format.{infinity_bits}
use Rattle.fused_guided.proofs.guided_bits.Goals as goal

-- the bits of the significand at its place are no more than an infinity's
room : (x ex ey k s et bt sig : ℕ) → Reach 1 ex ey k s → et ≡ field bt → (s + (et + word_bias)) % 2 ^ 64 ≡ ex + ey → Some sig ≡ significand x s
    → (et - 1) * 2 ^ 52 + sig ≤ infinity_bits
room x ex ey k s et bt sig ok T S e = let g = some_leads x s sig e in exponent-room ex ey k s et bt ok T S sig (sig_le x s sig g.0 g.1)

pub returns-then-not-usable-clause-given : goal.returns-then-not-usable-clause-given
returns-then-not-usable-clause-given c =
    let k = c.wrapping_sub_u64-k in
    let s = c.wrapping_sub_u64-s in
    let kb : k.result < 2 ^ 64 = omega arith in
    let sb : s.result < 2 ^ 64 = omega arith in
    sym
    (guided_no c.args.bx c.args.by c.args.bz c.args.bt c.field-ex.result c.field-ey.result c.field-ez.result c.field-et.result
    k.result s.result c.field-ex.ensures c.field-ey.ensures c.field-ez.ensures c.field-et.ensures kb sb k.ensures.value
    s.ensures.value (sym c.usable.ensures ∙ c.if-not-usable.true))

pub returns-in_err-g-clause-given : goal.returns-in_err-g-clause-given
returns-in_err-g-clause-given c =
    let k = c.wrapping_sub_u64-k in
    let s = c.wrapping_sub_u64-s in
    let kb : k.result < 2 ^ 64 = omega arith in
    let sb : s.result < 2 ^ 64 = omega arith in
    let u = c.normal_significand in
    let v = c.normal_significand-2 in
    let w = c.normal_significand-3 in
    let np = unlike c.minus_sign.result c.minus_sign-2.result in
    let cp = unlike np c.minus_sign-nt.result in
    let cz = unlike c.minus_sign-nz.result c.minus_sign-nt.result in
    rw c.from_residual.ensures
    (sym
    (ap (λ (b : Bool). b && leads (signed_sum cp (u.result * v.result) cz (w.result * 2 ^ k.result)) s.result) (sym c.usable.ensures ∙ c.if-not-usable.false)
    ∙ none_leads (signed_sum cp (u.result * v.result) cz (w.result * 2 ^ k.result)) s.result c.in_err-g.ensures)
    ∙ guided_is c.minus_sign.result c.minus_sign-2.result c.minus_sign-nz.result c.minus_sign-nt.result np cp cz c.args.bx c.args.by c.args.bz c.args.bt
    c.field-ex.result c.field-ey.result c.field-ez.result c.field-et.result k.result s.result u.result v.result w.result
    c.field-ex.ensures c.field-ey.ensures c.field-ez.ensures c.field-et.ensures kb sb k.ensures.value s.ensures.value
    u.ensures v.ensures w.ensures c.minus_sign.ensures c.minus_sign-2.ensures c.minus_sign-nz.ensures c.minus_sign-nt.ensures refl refl refl)

pub overflow_add-et-2 : goal.overflow_add-et-2
overflow_add-et-2 c =
    let ok = reach_is 1 c.field-ex.result c.field-ey.result c.wrapping_sub_u64-k.result c.wrapping_sub_u64-s.result c.usable.ensures c.if-not-usable.false in
    Fits-below tt
    (room _ c.field-ex.result c.field-ey.result c.wrapping_sub_u64-k.result c.wrapping_sub_u64-s.result c.field-et.result c.args.bt c.in_ok-g.g
    ok c.field-et.ensures c.wrapping_sub_u64-s.ensures.value c.in_ok-g.ensures)

pub signed-requires : goal.signed-requires
signed-requires c =
    let ok = reach_is 1 c.field-ex.result c.field-ey.result c.wrapping_sub_u64-k.result c.wrapping_sub_u64-s.result c.usable.ensures c.if-not-usable.false in
    room _ c.field-ex.result c.field-ey.result c.wrapping_sub_u64-k.result c.wrapping_sub_u64-s.result c.field-et.result c.args.bt c.in_ok-g.g
    ok c.field-et.ensures c.wrapping_sub_u64-s.ensures.value c.in_ok-g.ensures

pub returns : goal.returns
returns c =
    let k = c.wrapping_sub_u64-k in
    let s = c.wrapping_sub_u64-s in
    let kb : k.result < 2 ^ 64 = omega arith in
    let sb : s.result < 2 ^ 64 = omega arith in
    let u = c.normal_significand in
    let v = c.normal_significand-2 in
    let w = c.normal_significand-3 in
    let nx = c.minus_sign in
    let ny = c.minus_sign-2 in
    let nz = c.minus_sign-nz in
    let nt = c.minus_sign-nt in
    let np = unlike nx.result ny.result in
    let cp = unlike np nt.result in
    let cz = unlike nz.result nt.result in
    let x = signed_sum cp (u.result * v.result) cz (w.result * 2 ^ k.result) in
    let g = some_leads x s.result c.in_ok-g.g c.in_ok-g.ensures in
    let ok = reach_is 1 c.field-ex.result c.field-ey.result k.result s.result c.usable.ensures c.if-not-usable.false in record {
      given =
          sym g.0
          ∙ ap (λ (b : Bool). b && leads x s.result) (sym (sym c.usable.ensures ∙ c.if-not-usable.false))
          ∙ guided_is nx.result ny.result nz.result nt.result np cp cz c.args.bx c.args.by c.args.bz c.args.bt
          c.field-ex.result c.field-ey.result c.field-ez.result c.field-et.result k.result s.result u.result v.result w.result
          c.field-ex.ensures c.field-ey.ensures c.field-ez.ensures c.field-et.ensures kb sb k.ensures.value s.ensures.value
          u.ensures v.ensures w.ensures nx.ensures ny.ensures nz.ensures nt.ensures refl refl refl;
      found =
          bits_law nx.result ny.result nz.result nt.result np cp cz c.args.bx c.args.by c.args.bz
          c.field-ex.result c.field-ey.result c.field-ez.result c.field-et.result k.result s.result u.result v.result w.result
          c.in_ok-g.g c.signed.result c.field-ex.ensures c.field-ey.ensures c.field-ez.ensures
          (field_lt c.args.bt c.field-et.result c.field-et.ensures)
          k.ensures.value s.ensures.value ok u.ensures v.ensures w.ensures nx.ensures ny.ensures nz.ensures refl refl refl
          (exact_of cp cz (u.result * v.result) (w.result * 2 ^ k.result) s.result c.in_ok-g.g g.0 g.1)
          c.signed.ensures;
    }
