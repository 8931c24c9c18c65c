use Rattle.std.proofs.Common.{◌≡◌, ℕ, ◌<◌, false}
use Rattle.epoch_laws.specs.declared.step.Reply.TheVariants.{Registered}
use Rattle.epoch_laws.specs.Grace.{IsReplyAt}
use Rattle.epoch_laws.specs.Lawful.{told_of}
use Rattle.epoch_laws.proofs.histories.fits.each_has_left.Given as goal

-- each that has registered so far has left
abbrev pub invariant-loop-place : goal.invariant-loop-place
invariant-loop-place l = (i : ℕ) → i < l.place → (p : ℕ) → IsReplyAt l.entries i (Registered p)
    → (told_of p l.entries).registered ≡ false
