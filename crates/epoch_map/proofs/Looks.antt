-- What a look-up that only reads has in the end.
use Rattle.std.proofs.Common.{◌≡◌, ℕ, List, [], ◌∷◌, Result, Ok, None, Bool, true, sym, subst}
use Rattle.std.specs.declared.cmp.Ordering.{Ordering}
use Rattle.epoch_cells.specs.declared.fault.Fault.{Fault}
use Rattle.epoch_map.specs.declared.spots.MapCallNodes.{MapCallNodes}
use Rattle.epoch_map.proofs.Gives.{Lends, get_lends}
use Rattle.epoch_map.proofs.Nodes.{Seeks, Has, HasAnswer, does, again_has, reads_along}
use Rattle.epoch_structure_laws.specs.declared.map.plan.Aim.TheVariants.{ToGet}
use Rattle.epoch_structure_laws.specs.declared.map.plan.MapAnswer.{MapAnswer}
use Rattle.epoch_structure_laws.specs.declared.map.plan.MapPhase.{MapPhase}
use Rattle.epoch_structure_laws.specs.declared.map.plan.MapPhase.TheVariants.{Unlinking, Answering}
use Rattle.epoch_structure_laws.specs.declared.map.plan.MapWork.TheVariants.{Get}
use Rattle.epoch_structure_laws.specs.MapProgram.{start_map_work}
use Rattle.epoch_structure_calls.specs.MapCalls.{Attempts, GivesUp, Looks, Stop, stop_of}
use Rattle.epoch_structure_calls.specs.MapCalls.Stop.{Answered, Marked}
use Rattle.epoch_structure_calls.proofs.MapFitting.{attempt_suits}

module _ {N K L : Type 0} (key : N → K) (cmp : K → K → Ordering) (sought : K) (nodes : L → MapCallNodes N K)
    (b : ℕ) where
  abbrev Keeps : L → Type 0
  Keeps l = Seeks key cmp sought None (nodes l) × ((nodes l).own ≡ None)

  -- an attempt keeps to the key
  attempt_has : (m : ℕ) (l l' : L) (stop : Stop) → Keeps l
      → (attempt : Attempts (does key cmp sought None nodes) b 1 m l stop l')
      → Seeks key cmp sought None (nodes l') × Has key cmp sought None attempt.last (nodes l')
  attempt_has m l l' stop keeps attempt =
      reads_along key cmp sought None nodes attempt.reads.0 (start_map_work (Get b 1 m)) attempt.last l l' keeps.0
      (again_has key cmp sought None (nodes l) keeps.1 (ToGet b 1) m) attempt.reads.1

  at_mark : (last : MapPhase) (k : ℕ) (l : MapCallNodes N K) → stop_of last ≡ Marked k → Has key cmp sought None last l
      → l.own ≡ None
  at_mark (Unlinking aim link c next k') k l stops has = has
  at_mark last k l stops has = cc

  at_answer : (last : MapPhase) (answer : MapAnswer) (l : MapCallNodes N K) → stop_of last ≡ Answered answer
      → Has key cmp sought None last l → HasAnswer key cmp sought None answer l
  at_answer (Answering a) answer l stops has =
      let same : a ≡ answer = cc in subst (λ (z : MapAnswer). HasAnswer key cmp sought None z l) same has
  at_answer last answer l stops has = cc

  give_up_has : (lefts : List ℕ) (m m' : ℕ) (l l' : L) → Keeps l
      → GivesUp (does key cmp sought None nodes) b 1 lefts m l m' l' → Keeps l'
  give_up_has [] m m' l l' keeps gives = subst (λ (z : L). Keeps z) (sym gives.1) keeps
  give_up_has (left ∷ lefts) m m' l l' keeps gives =
      let has = attempt_has m l gives.0 (Marked left) keeps gives.1 in
      give_up_has lefts left m' gives.0 l'
      (has.0, at_mark gives.1.last left (nodes gives.0) gives.1.stops has.1) gives.2

  -- a look-up that finds the key lends a node
  pub look_lends : (m : ℕ) (l l' : L) (told : Result Bool Fault) → Keeps l
      → Looks (does key cmp sought None nodes) b 1 m l told l' → told ≡ Ok true
      → Lends key cmp sought None (nodes l')
  look_lends m l l' told keeps looks is =
      let between = give_up_has looks.lefts m looks.left l looks.between keeps looks.gives_up in
      let has = attempt_has looks.left looks.between l' (Answered looks.answer) between looks.attempts in
      get_lends key cmp sought None b looks.left None (nodes l') looks.answer
      (attempt_suits (does key cmp sought None nodes) b 1 looks.left looks.answer looks.between l' looks.attempts)
      (at_answer looks.attempts.last looks.answer (nodes l') looks.attempts.stops has.1)
      (subst (λ (r : Result Bool Fault). r ≡ Ok true) looks.tells is)
