-- Calls that take one phase after the other: a phase whose call was made, and the path from the phase that follows.
use Rattle.std.proofs.Common.{◌≡◌, [], ◌∷◌, Option, None, refl}
use Rattle.epoch_cells.specs.declared.fault.Fault.{Fault}
use Rattle.epoch_laws.specs.declared.heap.access.Access.{Access}
use Rattle.epoch_laws.specs.declared.heap.access.AccessAnswer.{AccessAnswer}
use Rattle.epoch_laws.specs.declared.step.Reply.{Reply}
use Rattle.epoch_laws.specs.declared.step.Reply.TheVariants.{Done}
use Rattle.epoch_structure_laws.specs.Plans.{Deed, Answers, after_by}
use Rattle.epoch_structure_calls.specs.Paths.{fault_after, Keeping, PerformsBy, DoesBy}

module _ {P A L H : Type 0} (does : L → Access → Reply → L → Type 0) (keeping : Keeping H) (deed : P → Deed P A) where
  -- a phase's call was answered, and the path goes on from the phase that follows
  pub path_goes_on : (phase : P) (answer : AccessAnswer) (old mid new : H) (links between links' : L) (a : A)
      (refused : Option Fault) → PerformsBy does keeping (deed phase) old links (Done answer) mid between
      → DoesBy does keeping deed (after_by phase (deed phase) (Done answer)) mid between a refused new links'
      → DoesBy does keeping deed phase old links a refused new links'
  path_goes_on phase answer old mid new links between links' a refused performs path = record {
    replies = Done answer ∷ path.replies;
    last = path.last;
    goes = (mid, between, performs, path.goes);
    answers = path.answers;
    newest = path.newest;
  }

  -- a phase's call was made, and the phase that follows answers
  pub path_ends : (phase : P) (reply : Reply) (old new : H) (links links' : L) (a : A)
      → PerformsBy does keeping (deed phase) old links reply new links'
      → deed (after_by phase (deed phase) reply) ≡ Answers a
      → DoesBy does keeping deed phase old links a (fault_after None reply) new links'
  path_ends phase reply old new links links' a performs answers = record {
    replies = reply ∷ [];
    last = after_by phase (deed phase) reply;
    goes = (new, links', performs, (refl, refl, refl));
    answers = answers;
    newest = refl;
  }

  -- no call is left but the answer
  pub path_is_over : (phase : P) (old : H) (links : L) (a : A) → deed phase ≡ Answers a
      → DoesBy does keeping deed phase old links a None old links
  path_is_over phase old links a answers = record {
    replies = [];
    last = phase;
    goes = (refl, refl, refl);
    answers = answers;
    newest = refl;
  }
