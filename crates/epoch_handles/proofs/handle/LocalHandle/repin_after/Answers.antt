use Rattle.std.proofs.Common.{arith, ◌≡◌, Option, None, IsSome, sym, subst, ⊎_elim}
use Rattle.std.proofs.lemmas.Bool.{false≢true}
use Rattle.epoch_handles.specs.Handles.{Owns}
use Rattle.epoch_handles.proofs.Tests.{not_both}
use Rattle.epoch_handles.proofs.handle.LocalHandle.repin_after.Goals as goal

none_is_not_some : {A : Type 0} {o : Option A} → o ≡ None → IsSome o → ⊥
none_is_not_some none some = false≢true (subst IsSome none some)

-- the guard protects nothing, so nothing is said here
pub returns-then-not-is_protecting-clause-does : goal.returns-then-not-is_protecting-clause-does
returns-then-not-is_protecting-clause-does g c =
    λ some. absurd (not_both c.if-not-is_protecting.true (c.is_protecting.ensures.1 some))

-- a guard that protects is this handle's
pub pause-paused-requires : goal.pause-paused-requires
pause-paused-requires g c =
    let own : Owns c.args.self.now c.args.guard.now = ⊎_elim (λ none. absurd (none_is_not_some none
    (c.is_protecting.ensures.0 c.if-not-is_protecting.false))) (λ owns. owns) c.requires.guard in
    (omega arith, subst (λ z. Owns c.args.self.now z) (sym c.taken.ensures.taken) own)

-- the function is called on what the pause left
pub returns-clause-does : goal.returns-clause-does
returns-clause-does g c = λ some. (
  c.pause-paused.new.self,
  record {
    same = c.pause-paused.ensures.same;
    ready = c.pause-paused.ensures.ready;
    counted = c.pause-paused.ensures.counted;
  },
  c.pause-paused.ensures.does,
  c.resume.ensures.does,
  c.resume.ensures.called,
  rw (← c.self-2.view_is) (c.run-answer.ensures.ran),
)
