use Rattle.std.proofs.Common.{◌≡◌, ℕ, ◌<◌, ◌∙◌, refl, sym, subst, Option, Some, None, IsNone, IfSome}
use Rattle.std.proofs.lemmas.Bool.{false≢true}
use Rattle.epoch_cells.specs.declared.cells.name.Name.{Name}
use Rattle.epoch_atomic.specs.Pointers.{Reads}
use Rattle.epoch_atomic.specs.WordSteps.{WordStep, EndsOwned}
use Rattle.epoch_atomic.specs.WordSteps.WordStep.{Ends}
use Rattle.epoch_atomic.specs.declared.atomic.owned.Owned.{Owned}
use Rattle.epoch_atomic.proofs.atomic.Atomic.try_into_owned.Goals as goal

-- a value that is answered has the tag of the pointer that was read, and that pointer isn't null
ends_owned : {T : Type 0} (align : ℕ) (did : WordStep → Type 0) (answer : Option (Owned T)) (name : Option Name)
    (tag word : ℕ)
    → Reads align word name tag
    → did (Ends word)
    → IfSome answer (λ owned. owned.tag ≡ tag)
    → (IsNone name → IsNone answer)
    → EndsOwned align did answer
ends_owned align did None name tag word reads ends same null = (word, reads.0, ends)
ends_owned align did (Some owned) None tag word reads ends same null = absurd (false≢true (sym (null refl)))
ends_owned align did (Some owned) (Some name) tag word reads ends same null = (
  word,
  name,
  (reads.0, reads.1, same ∙ reads.2, subst (λ (z : ℕ). z < align) (sym same) reads.3),
  ends,
)

pub returns-clause-did : goal.returns-clause-did
returns-clause-did g c =
    ends_owned g.T.Pointable.ALIGN (g.A.SharedWord.did c.args.self.word) c.taken_under.result c.read.result.name
    c.read.result.tag c.end.result c.read.ensures.reads c.end.ensures.did c.taken_under.ensures.tag
    c.taken_under.ensures.null
