-- The words turned over, summed with their carries and turned back are the signed sum: `sum_law`.
use Rattle.std.proofs.Common.{◌^◌, ◌<◌, refl, arith}
use lib.Ieee.{unlike}
use Rattle.fused_guided.proofs.Laws.Signed.{sum_law}
use Rattle.fused_guided.proofs.signed_sum.Goals as goal

pub returns : goal.returns
returns c =
    let p = c.args.p in
    let z = c.args.z in
    let p_fits : p.lo < 2 ^ 64 = omega arith in
    let z_fits : z.lo < 2 ^ 64 = omega arith in
    let al = c.turn in
    let cl = c.turn-2 in
    let a = c.carry_add-a in
    let ah = c.turn-3 in
    let ch = c.turn-4 in
    let h = c.carry_add-h in
    let g = c.carry_add-g in
    let hi = c.turn-5 in
    let lo = c.turn-6 in
    sum_law c.args.cp c.args.cz (unlike c.args.cp c.args.cz) p.hi p.lo z.hi z.lo al.result cl.result ah.result ch.result
    a.result.hi a.result.lo h.result.hi h.result.lo g.result.hi g.result.lo hi.result lo.result
    c.requires.p_bound c.requires.z_bound p_fits z_fits al.ensures cl.ensures ah.ensures ch.ensures refl
    a.ensures.0 a.ensures.1.0 a.ensures.1.1 h.ensures.0 g.ensures.0 g.ensures.1.0 hi.ensures lo.ensures
