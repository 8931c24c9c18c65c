-- A coded call goes hand in hand with one that is told the entries themselves.
use Rattle.std.proofs.Common.{◌≡◌, ◌∙◌, ℕ, zero, suc, ◌+◌, ◌*◌, ◌<◌, Option, Some, None, Bool, true, false, refl}
use Rattle.std.proofs.Common.{sym, ap, subst, arith, if◌then◌else◌, nat_lt}
use Rattle.std.proofs.lemmas.Bool.Decides.{nat_tests}
use Rattle.std.specs.Ordering.{nat_cmp}
use Rattle.std.proofs.lemmas.Cmp.{ranked}
use Rattle.std.specs.Cmp.{nat_cmp_is}
use Rattle.std.specs.declared.cmp.Ordering.{Ordering}
use Rattle.std.specs.declared.cmp.Ordering.TheVariants.{Less, Equal, Greater}
use Rattle.epoch_cells.specs.declared.cells.name.Name.{Name}
use Rattle.epoch_laws.specs.declared.heap.access.AccessAnswer.TheVariants.{Unit as UnitAnswer, Name as NameAnswer}
use Rattle.epoch_laws.specs.declared.heap.access.AccessAnswer.TheVariants.{Value, Pointer, Exchanged}
use Rattle.epoch_laws.specs.declared.heap.access.Spot.{Spot}
use Rattle.epoch_laws.specs.declared.heap.access.Spot.TheVariants.{Root, Field}
use Rattle.epoch_laws.specs.declared.step.Reply.{Reply}
use Rattle.epoch_laws.specs.declared.step.Reply.TheVariants.{Done}
use Rattle.epoch_structure_laws.specs.Plans.{after_by}
use Rattle.epoch_structure_laws.specs.declared.map.plan.Aim.{Aim}
use Rattle.epoch_structure_laws.specs.declared.map.plan.Aim.TheVariants.{ToInsert, ToRemove, ToGet}
use Rattle.epoch_structure_laws.specs.declared.map.plan.MapAnswer.{MapAnswer}
use Rattle.epoch_structure_laws.specs.declared.map.plan.MapAnswer.TheVariants.{AlreadyThere, AlreadyThereLeaking}
use Rattle.epoch_structure_laws.specs.declared.map.plan.MapAnswer.TheVariants.{Removed, RemovedLeaking, Found}
use Rattle.epoch_structure_laws.specs.declared.map.plan.MapPhase.{MapPhase}
use Rattle.epoch_structure_laws.specs.declared.map.plan.MapPhase.TheVariants.{MakingRoom, Placing, LoadingFirst}
use Rattle.epoch_structure_laws.specs.declared.map.plan.MapPhase.TheVariants.{Reading, Leaving, LoadingNext, Unlinking}
use Rattle.epoch_structure_laws.specs.declared.map.plan.MapPhase.TheVariants.{Burying, Linking, Inserting, Marking}
use Rattle.epoch_structure_laws.specs.declared.map.plan.MapPhase.TheVariants.{Dropping, Removing, TakingBack, Answering}
use Rattle.epoch_structure_laws.specs.declared.map.plan.MapWork.{MapWork}
use Rattle.epoch_structure_laws.specs.declared.map.plan.MapWork.TheVariants.{Insert, Remove, Get}
use Rattle.epoch_structure_laws.specs.MapProgram.{map_deed_of, node_key, key_sought, bucket_of, out_of_moves, again}
use Rattle.epoch_structure_laws.specs.MapProgram.{absent, present, at, to_look, looked_at, map_load, leaking}
use Rattle.epoch_structure_laws.specs.MapProgram.{start_map_work}
use Rattle.epoch_structure_calls.specs.MapCalls.{coded, first_of}
use Rattle.epoch_structure_calls.specs.Ranks.{code_of, coded_work, coded_aim, coded_answer, coded_phase, coded_reply}
use Rattle.epoch_structure_calls.specs.Ranks.{AsksAlike, WorkIsFor, AimIsFor, PhaseIsFor}

-- HOW CODED KEYS COMPARE

less_is : node_key (coded Less) ≡ 0
unfolding node_key
less_is = refl

equal_is : node_key (coded Equal) ≡ 1
unfolding node_key
equal_is = refl

greater_is : node_key (coded Greater) ≡ 2
unfolding node_key
greater_is = refl

-- two tests of the same
tests_so : (a b c d : ℕ) → (a < b → c < d) → (c < d → a < b) → nat_lt a b ≡ nat_lt c d
tests_so a b c d on back = by_tests (nat_lt a b) (nat_lt c d) refl refl
  where
    by_tests : (t t' : Bool) → nat_lt a b ≡ t → nat_lt c d ≡ t' → t ≡ t'
    by_tests true true is is' = refl
    by_tests true false is is' =
        let less : a < b = grind (arith, nat_tests, is) in absurd (grind (arith, nat_tests, is', on less))
    by_tests false true is is' =
        let less : c < d = grind (arith, nat_tests, is') in absurd (grind (arith, nat_tests, is, back less))
    by_tests false false is is' = refl

module _ (key : ℕ) where
  -- how the code of a key compares with 1
  code_below : (v : ℕ) → nat_lt (node_key (code_of key v)) 1 ≡ nat_lt (node_key v) key
  code_below v = by_order (nat_cmp (node_key v) key) refl
    where
      by_order : (o : Ordering) → o ≡ nat_cmp (node_key v) key → nat_lt (node_key (coded o)) 1 ≡ nat_lt (node_key v) key
      by_order Less is =
          let less : node_key v < key = ranked (node_key v) key Less is in
          tests_so (node_key (coded Less)) 1 (node_key v) key (λ _. less) (λ _. omega (arith, less_is))
      by_order Equal is =
          let same : node_key v ≡ key = ranked (node_key v) key Equal is in
          tests_so (node_key (coded Equal)) 1 (node_key v) key (λ l. absurd (omega (arith, equal_is, l)))
          (λ l. absurd (omega (arith, same, l)))
      by_order Greater is =
          let more : key < node_key v = ranked (node_key v) key Greater is in
          tests_so (node_key (coded Greater)) 1 (node_key v) key (λ l. absurd (omega (arith, greater_is, l)))
          (λ l. absurd (omega (arith, more, l)))

  code_above : (v : ℕ) → nat_lt 1 (node_key (code_of key v)) ≡ nat_lt key (node_key v)
  code_above v = by_order (nat_cmp (node_key v) key) refl
    where
      by_order : (o : Ordering) → o ≡ nat_cmp (node_key v) key → nat_lt 1 (node_key (coded o)) ≡ nat_lt key (node_key v)
      by_order Less is =
          let less : node_key v < key = ranked (node_key v) key Less is in
          tests_so 1 (node_key (coded Less)) key (node_key v) (λ l. absurd (omega (arith, less_is, l)))
          (λ l. absurd (omega (arith, less, l)))
      by_order Equal is =
          let same : node_key v ≡ key = ranked (node_key v) key Equal is in
          tests_so 1 (node_key (coded Equal)) key (node_key v) (λ l. absurd (omega (arith, equal_is, l)))
          (λ l. absurd (omega (arith, same, l)))
      by_order Greater is =
          let more : key < node_key v = ranked (node_key v) key Greater is in
          tests_so 1 (node_key (coded Greater)) key (node_key v) (λ _. more) (λ _. omega (arith, greater_is))

  -- the key that is sought has the number 1
  own_code : (e : ℕ) → node_key e ≡ key → node_key (code_of key e) ≡ 1
  own_code e is = ap (λ (o : Ordering). node_key (coded o)) (sym (nat_cmp_is (node_key e) key Equal is)) ∙ equal_is

  sought_is : (aim : Aim) → AimIsFor key aim → key_sought aim ≡ key
  sought_is (ToInsert b e own) is = is
  sought_is (ToRemove b key') is = is
  sought_is (ToGet b key') is = is

  sought_code : (aim : Aim) → AimIsFor key aim → key_sought (coded_aim key aim) ≡ 1
  sought_code (ToInsert b e own) is = own_code e is
  sought_code (ToRemove b key') is = refl
  sought_code (ToGet b key') is = refl

  bucket_same : (aim : Aim) → bucket_of (coded_aim key aim) ≡ bucket_of aim
  bucket_same (ToInsert b e own) = refl
  bucket_same (ToRemove b key') = refl
  bucket_same (ToGet b key') = refl

  lower_alike : (aim : Aim) (v : ℕ) → AimIsFor key aim
      → nat_lt (node_key (code_of key v)) (key_sought (coded_aim key aim)) ≡ nat_lt (node_key v) (key_sought aim)
  lower_alike aim v is =
      ap (λ (k : ℕ). nat_lt (node_key (code_of key v)) k) (sought_code aim is)
      ∙ code_below v ∙ ap (λ (k : ℕ). nat_lt (node_key v) k) (sym (sought_is aim is))

  higher_alike : (aim : Aim) (v : ℕ) → AimIsFor key aim
      → nat_lt (key_sought (coded_aim key aim)) (node_key (code_of key v)) ≡ nat_lt (key_sought aim) (node_key v)
  higher_alike aim v is =
      ap (λ (k : ℕ). nat_lt k (node_key (code_of key v))) (sought_code aim is)
      ∙ code_above v ∙ ap (λ (k : ℕ). nat_lt k (node_key v)) (sym (sought_is aim is))

  -- WHAT FOLLOWS

  -- the coded call comes to this phase where the other comes to that one, which is for the key
  abbrev Goes : MapPhase → MapPhase → Type 0
  Goes p p' = (coded_phase key p ≡ p') × PhaseIsFor key p

  test_goes : (t t' : Bool) (p q p' q' : MapPhase) → t' ≡ t → Goes p p' → Goes q q'
      → Goes (if t then p else q) (if t' then p' else q')
  test_goes true true p q p' q' is one other = one
  test_goes false false p q p' q' is one other = other
  test_goes true false p q p' q' is one other = absurd cc
  test_goes false true p q p' q' is one other = absurd cc

  again_goes : (aim : Aim) (k : ℕ) → AimIsFor key aim → Goes (again aim k) (again (coded_aim key aim) k)
  again_goes (ToInsert b e own) zero is = (refl, tt)
  again_goes (ToRemove b key') zero is = (refl, tt)
  again_goes (ToGet b key') zero is = (refl, tt)
  again_goes aim (suc k) is = (refl, is)

  out_goes : (aim : Aim) → Goes (out_of_moves aim) (out_of_moves (coded_aim key aim))
  out_goes (ToInsert b e own) = (refl, tt)
  out_goes (ToRemove b key') = (refl, tt)
  out_goes (ToGet b key') = (refl, tt)

  absent_goes : (aim : Aim) (link : Spot) (o : Option Name) (k : ℕ) → AimIsFor key aim
      → Goes (absent aim link o k) (absent (coded_aim key aim) link o k)
  absent_goes (ToInsert b e own) link o k is = (refl, is)
  absent_goes (ToRemove b key') link o k is = (refl, tt)
  absent_goes (ToGet b key') link o k is = (refl, tt)

  present_goes : (aim : Aim) (link : Spot) (c : Name) (v : ℕ) (o : Option Name) (k : ℕ) → AimIsFor key aim
      → Goes (present aim link c v o k) (present (coded_aim key aim) link c (code_of key v) o k)
  present_goes (ToInsert b e own) link c v o k is = (refl, tt)
  present_goes (ToRemove b key') link c v o k is = (refl, is)
  present_goes (ToGet b key') link c v o k is = (refl, tt)

  at_goes : (aim : Aim) (link : Spot) (o : Option Name) (k : ℕ) → AimIsFor key aim
      → Goes (at aim link o k) (at (coded_aim key aim) link o k)
  at_goes aim link None k is = absent_goes aim link None k is
  at_goes aim link (Some c) zero is = out_goes aim
  at_goes aim link (Some c) (suc k) is = (refl, is)

  look_goes : (aim : Aim) (link : Spot) (c : Name) (v k : ℕ) → AimIsFor key aim
      → Goes (to_look aim link c v k) (to_look (coded_aim key aim) link c (code_of key v) k)
  look_goes aim link c v k is =
      test_goes (nat_lt (key_sought aim) (node_key v))
      (nat_lt (key_sought (coded_aim key aim)) (node_key (code_of key v)))
      (absent aim link (Some c) k) (LoadingNext aim link c v k) (absent (coded_aim key aim) link (Some c) k)
      (LoadingNext (coded_aim key aim) link c (code_of key v) k) (higher_alike aim v is)
      (absent_goes aim link (Some c) k is) (refl, is)

  looked_goes : (aim : Aim) (link : Spot) (c : Name) (v k : ℕ) (o : Option Name) (tag : ℕ) → AimIsFor key aim
      → Goes (looked_at aim link c v k o tag) (looked_at (coded_aim key aim) link c (code_of key v) k o tag)
  looked_goes aim link c v k o zero is =
      test_goes (nat_lt (node_key v) (key_sought aim))
      (nat_lt (node_key (code_of key v)) (key_sought (coded_aim key aim)))
      (at aim (Field c 0) o k) (present aim link c v o k) (at (coded_aim key aim) (Field c 0) o k)
      (present (coded_aim key aim) link c (code_of key v) o k) (lower_alike aim v is) (at_goes aim (Field c 0) o k is)
      (present_goes aim link c v o k is)
  looked_goes aim link c v k o (suc tag) is = (refl, is)

  first_goes : (aim : Aim) (k : ℕ) (o : Option Name) → AimIsFor key aim
      → Goes (at aim (Root (bucket_of aim)) o k) (at (coded_aim key aim) (Root (bucket_of (coded_aim key aim))) o k)
  first_goes aim k o is =
      subst (λ (b : ℕ). Goes (at aim (Root (bucket_of aim)) o k) (at (coded_aim key aim) (Root b) o k))
      (sym (bucket_same aim)) (at_goes aim (Root (bucket_of aim)) o k is)

  leaking_same : (answer : MapAnswer) → coded_answer key (leaking answer) ≡ leaking (coded_answer key answer)
  leaking_same (AlreadyThere v) = refl
  leaking_same (AlreadyThereLeaking v) = refl
  leaking_same (Removed v) = refl
  leaking_same (RemovedLeaking v) = refl
  leaking_same (Found v) = refl
  leaking_same answer = refl

  start_goes : (work : MapWork) → WorkIsFor key work → Goes (start_map_work work) (start_map_work (coded_work key work))
  start_goes (Insert b e k) is = (refl, is)
  start_goes (Remove b key' k) is = again_goes (ToRemove b key') k is
  start_goes (Get b key' k) is = again_goes (ToGet b key') k is

  pub first_work_goes : (work : MapWork) → WorkIsFor key work → Goes (first_of work) (first_of (coded_work key work))
  first_work_goes (Insert b e k) is = (refl, is)
  first_work_goes (Remove b key' k) is = (refl, is)
  first_work_goes (Get b key' k) is = again_goes (ToGet b key') k is

  -- STEPS

  module _ (g : ℕ) where
    abbrev next_phase : MapPhase → Reply → MapPhase
    next_phase phase reply = after_by phase (map_deed_of g phase) reply

    -- each phase is followed by the same one
    pub step_goes : (phase : MapPhase) (reply : Reply) → PhaseIsFor key phase
        → Goes (next_phase phase reply) (next_phase (coded_phase key phase) (coded_reply key reply))
    step_goes (MakingRoom work) (Done (Value w)) is = start_goes work is
    step_goes (MakingRoom work) (Done a) is = start_goes work is
    step_goes (MakingRoom work) reply is = (refl, tt)
    step_goes (Placing b e k) (Done (NameAnswer n)) is = again_goes (ToInsert b e n) k is
    step_goes (Placing b e k) (Done (Value w)) is = (refl, tt)
    step_goes (Placing b e k) (Done a) is = (refl, tt)
    step_goes (Placing b e k) reply is = (refl, tt)
    step_goes (LoadingFirst aim k) (Done (Pointer ptr)) is = first_goes aim k ptr.name is
    step_goes (LoadingFirst aim k) (Done (Value w)) is = again_goes aim k is
    step_goes (LoadingFirst aim k) (Done a) is = again_goes aim k is
    step_goes (LoadingFirst aim k) reply is = again_goes aim k is
    step_goes (Reading aim link c k) (Done (Value v)) is = (refl, is)
    step_goes (Reading aim link c k) (Done a) is = again_goes aim k is
    step_goes (Reading aim link c k) reply is = again_goes aim k is
    step_goes (Leaving aim link c v k) (Done (Value w)) is = look_goes aim link c v k is
    step_goes (Leaving aim link c v k) (Done a) is = look_goes aim link c v k is
    step_goes (Leaving aim link c v k) reply is = again_goes aim k is
    step_goes (LoadingNext aim link c v k) (Done (Pointer ptr)) is = looked_goes aim link c v k ptr.name ptr.tag is
    step_goes (LoadingNext aim link c v k) (Done (Value w)) is = again_goes aim k is
    step_goes (LoadingNext aim link c v k) (Done a) is = again_goes aim k is
    step_goes (LoadingNext aim link c v k) reply is = again_goes aim k is
    step_goes (Unlinking aim link c next k) (Done (Exchanged ptr)) is = (refl, is)
    step_goes (Unlinking aim link c next k) (Done (Value w)) is = again_goes aim k is
    step_goes (Unlinking aim link c next k) (Done a) is = again_goes aim k is
    step_goes (Unlinking aim link c next k) reply is = again_goes aim k is
    step_goes (Burying aim c k) (Done (Value w)) is = again_goes aim k is
    step_goes (Burying aim c k) (Done a) is = again_goes aim k is
    step_goes (Burying aim c k) reply is = (refl, tt)
    step_goes (Linking b e own link next k) (Done UnitAnswer) is = (refl, is)
    step_goes (Linking b e own link next k) (Done (Value w)) is = again_goes (ToInsert b e own) k is
    step_goes (Linking b e own link next k) (Done a) is = again_goes (ToInsert b e own) k is
    step_goes (Linking b e own link next k) reply is = again_goes (ToInsert b e own) k is
    step_goes (Inserting b e own link next k) (Done (Exchanged ptr)) is = (refl, tt)
    step_goes (Inserting b e own link next k) (Done (Value w)) is = again_goes (ToInsert b e own) k is
    step_goes (Inserting b e own link next k) (Done a) is = again_goes (ToInsert b e own) k is
    step_goes (Inserting b e own link next k) reply is = again_goes (ToInsert b e own) k is
    step_goes (Marking b key' link c v next k) (Done (Exchanged ptr)) is = (refl, tt)
    step_goes (Marking b key' link c v next k) (Done (Value w)) is = again_goes (ToRemove b key') k is
    step_goes (Marking b key' link c v next k) (Done a) is = again_goes (ToRemove b key') k is
    step_goes (Marking b key' link c v next k) reply is = again_goes (ToRemove b key') k is
    step_goes (Dropping b key' link c v next) (Done (Exchanged ptr)) is = (refl, tt)
    step_goes (Dropping b key' link c v next) (Done (Value w)) is = (refl, tt)
    step_goes (Dropping b key' link c v next) (Done a) is = (refl, tt)
    step_goes (Dropping b key' link c v next) reply is = (refl, tt)
    step_goes (Removing c v) (Done (Value w)) is = (refl, tt)
    step_goes (Removing c v) (Done a) is = (refl, tt)
    step_goes (Removing c v) reply is = (refl, tt)
    step_goes (TakingBack own answer) (Done (Value w)) is = (refl, tt)
    step_goes (TakingBack own answer) (Done a) is = (refl, tt)
    step_goes (TakingBack own answer) reply is = (ap (λ (z : MapAnswer). Answering z) (leaking_same answer), tt)
    step_goes (Answering answer) (Done (Value w)) is = (refl, tt)
    step_goes (Answering answer) (Done a) is = (refl, tt)
    step_goes (Answering answer) reply is = (refl, tt)

    -- and asks for the same call
    pub asks_same : (phase : MapPhase) → AsksAlike key (map_deed_of g phase) (map_deed_of g (coded_phase key phase))
    asks_same (MakingRoom work) = tt
    asks_same (LoadingFirst aim k) = ap (λ (b : ℕ). map_load g (Root b)) (bucket_same aim)
    asks_same phase = refl

-- An entry whose key has a number in the keys' order is told as the key compares.
key_in : (rank value : ℕ) → value < 4294967296 → node_key (rank * 4294967296 + value) ≡ rank
unfolding node_key
key_in rank value small = omega (arith, small)

-- such an entry is told as its key's number compares with the number of the key that is sought
pub told_by_order : (order : Ordering) (rank sought value : ℕ) → nat_cmp rank sought ≡ order → value < 4294967296
    → code_of sought (rank * 4294967296 + value) ≡ coded order
told_by_order order rank sought value is small =
    ap (λ (k : ℕ). coded (nat_cmp k sought)) (key_in rank value small) ∙ ap coded is
