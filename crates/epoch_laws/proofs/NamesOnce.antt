-- In every run no name is given twice.
use Rattle.std.proofs.Common.{◌≡◌, List, [], ◌∷◌, ◌⊎◌, inl, inr, refl, sym, subst, ◌∙◌, slice_get}
use Rattle.epoch_cells.specs.declared.cells.name.Name.{Name}
use Rattle.epoch_laws.specs.declared.heap.access.Access.TheVariants.{Place}
use Rattle.epoch_laws.specs.declared.step.Entry.{Entry}
use Rattle.epoch_laws.specs.declared.step.Step.{Step}
use Rattle.epoch_laws.specs.Given.{GivesName, given_after, GivesNewFrom, GivesNoNameTwice}
use Rattle.epoch_laws.specs.Heap.{Heap}
use Rattle.epoch_laws.specs.Run.{State, with_places, Moves, TakesStep, Runs}
use Rattle.epoch_laws.proofs.HeapSteps.{MakesAccess, HeapGoes, heap_goes, access_goes}
use Rattle.epoch_laws.proofs.TurnsGiven.{IsGiven, StaysGiven, given_same, given_job, touches_given, GivesNew}
use Rattle.epoch_laws.proofs.TurnsGiven.{place_gives}

module _ (old new : State) (entry : Entry) (took : TakesStep old entry.step entry.reply new) where
  -- the state after the step, but for the places
  abbrev aside : State
  aside = with_places new old.places old.seen old.ahead old.room

  stays_along : HeapGoes old aside entry.step entry.reply → StaysGiven old.heap new.heap
  stays_along (inl same) = given_same old.heap new.heap same
  stays_along (inr (inl calls)) = subst (StaysGiven old.heap) (sym calls.heap) (given_job old.heap calls.removes)
  stays_along (inr (inr (inl calls))) = subst (StaysGiven old.heap) (sym calls.heap) (given_job old.heap calls.removes)
  stays_along (inr (inr (inr access))) = subst (StaysGiven old.heap) (sym access.makes.heap)
      (touches_given access.call access.steps access.found old.heap access.makes.did access.makes.touches)

  -- at the step a name that was given stays given
  pub stays_given : StaysGiven old.heap new.heap
  stays_given = stays_along (heap_goes old aside entry.step entry.reply entry.step refl took.0)

  -- a name that the step gives wasn't given before it, and is given after it
  pub gives_new : (x : Name) → GivesName old entry new x → GivesNew old.heap new.heap x
  gives_new x gives =
      by_access (access_goes old aside entry.step entry.reply gives.who (Place gives.value) gives.steps gives.found
      gives.progress (subst (λ (s : Step). Moves old s entry.reply aside) gives.step took.0))
    where
      by_access : (aside ≡ old) ⊎ MakesAccess old aside gives.who (Place gives.value) gives.steps gives.found
          → GivesNew old.heap new.heap x
      by_access (inl same) =
          absurd (cc (gives.progress, gives.answer, same))
      by_access (inr makes) = subst (λ (h : Heap). GivesNew old.heap h x) (sym makes.heap)
          (place_gives gives.value gives.steps gives.found old.heap (slice_get old.heap.cells gives.steps) refl
          makes.did makes.touches x
          (sym makes.after ∙ gives.answer))

runs_give : (old new : State) (log : List Entry) (given : Name → Type 0) → ((x : Name) → given x → IsGiven old.heap x)
    → (run : Runs old log new) → GivesNewFrom given old log new run
runs_give old new [] given h run = tt
runs_give old new (entry ∷ log) given h (mid, took, run) = (
  λ x gives was. (gives_new old mid entry took x gives).fresh (h x was),
  runs_give mid new log (given_after given old entry mid) more run,
)
  where
    more : (x : Name) → given_after given old entry mid x → IsGiven mid.heap x
    more x (inl was) = stays_given old mid entry took x (h x was)
    more x (inr gives) = (gives_new old mid entry took x gives).given

-- in every run no name is given twice
pub no_name_twice : (s new : State) (log : List Entry) → (run : Runs s log new) → GivesNoNameTwice s log new run
no_name_twice s new log run = runs_give s new log (λ x. ⊥) (λ x none. absurd none) run
