use Rattle.std.proofs.Common.{below_more, refl, sym, subst, arith}
use Rattle.std.proofs.lemmas.Bool.Decides.{not_from_Decides}
use Rattle.epoch_laws.specs.Lawful.{nothing}
use Rattle.epoch_laws.proofs.RepliesRead.{MayReplyBefore, MayReplyAt, all_may_reply, may_reply_read}
use Rattle.epoch_laws.proofs.RepliesRead.{read_may_reply}
use Rattle.epoch_laws.proofs.histories.lawful.all_stand_in_calls.Goals as goal

pub returns-then-not-may_reply : goal.returns-then-not-may_reply
returns-then-not-may_reply c = (
  λ yes. absurd (cc),
  λ all. absurd (not_from_Decides _ c.may_reply.ensures c.if-not-may_reply.true
      (subst (MayReplyBefore c.args.entries.now c.loop-place.place) (sym c.index-entries-place.is)
      (may_reply_read c.args.entries.now c.loop-place.place _ c.loop-place-test.true all))),
)

pub loop-place-preserved : goal.loop-place-preserved
loop-place-preserved c =
    below_more (MayReplyAt (λ p. nothing) c.args.entries.now) c.loop-place.place c.loop-place.invariant
    (read_may_reply c.args.entries.now c.loop-place.place _
    (subst (MayReplyBefore c.args.entries.now c.loop-place.place) c.index-entries-place.is
    (c.may_reply.ensures.0 c.if-not-may_reply.false)))

pub returns : goal.returns
returns c = (
  λ yes. all_may_reply (λ p. nothing) c.args.entries.now (λ k within. c.loop-place.invariant k (omega arith)),
  λ all. refl,
)
