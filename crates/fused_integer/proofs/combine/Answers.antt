-- The smaller is cut to the larger's place with a sticky bit, added or taken away, and finished: `combine_add`, `combine_sub`.
use Rattle.std.proofs.Common.{ℕ, ◌-◌, Bool, sym, ap, ◌∙◌, subst, sub-add_cancel}
use Rattle.fused_integer.specs.Parts.{Finish, Combined}
use Rattle.fused_integer.specs.Words.{words}
use Rattle.fused_integer.proofs.Laws.Combine.{shifted_le, combine_add, combine_sub}
use Rattle.fused_integer.proofs.combine.Goals as goal
use Rattle.fused_integer.proofs.combine.Goals.{then-same, else-same}

pub sub-total-requires : goal.sub-total-requires
sub-total-requires c =
    let a = c.args.a in
    let b = c.args.b in
    shifted_le (words a.wide) a.exp (words b.wide) b.exp (words c.jam-w.result) (a.exp - b.exp) c.requires
    (sub-add_cancel c.requires.exps) c.jam-w.ensures

pub returns : goal.returns
returns c =
    let a = c.args.a in
    let b = c.args.b in
    let r = c.finish.result in
    let d = sub-add_cancel c.requires.exps in
    elim c.if-same.branch [
      | then-same w ↦
          subst (λ (s : Bool). Combined s (words a.wide) a.exp (words b.wide) b.exp r) (sym w.if-same.true)
          (combine_add (words a.wide) a.exp (words b.wide) b.exp (words c.jam-w.result) (a.exp - b.exp) c.requires d c.jam-w.ensures r
          (subst (λ (x : ℕ). Finish x a.exp r) (ap words w.total-is ∙ w.add-total.ensures) c.finish.ensures))
      | else-same w ↦
          subst (λ (s : Bool). Combined s (words a.wide) a.exp (words b.wide) b.exp r) (sym w.if-same.false)
          (combine_sub (words a.wide) a.exp (words b.wide) b.exp (words c.jam-w.result) (a.exp - b.exp) c.requires d c.jam-w.ensures r
          (subst (λ (x : ℕ). Finish x a.exp r) (ap words w.total-is ∙ w.sub-total.ensures) c.finish.ensures))
    ]
