-- A step of a collection, and a call, leave fewer steps for the call under way.
use Rattle.std.proofs.Common.{◌≡◌, ℕ, ◌+◌, ◌<◌, ◌≤◌, ◌-◌, ◌^◌, ◌==◌, Bool, true, false, List, [], ◌∷◌, length, Some}
use Rattle.std.proofs.Common.{refl, ap, sym, subst, ◌∙◌, arith, if◌then◌else◌, zero, suc}
use Rattle.epoch_bags.specs.declared.queue.TakeStep.{TakeStep}
use Rattle.epoch_bags.specs.declared.queue.TakeStep.TheVariants.{Again, Empty, Got}
use Rattle.epoch_machine.specs.declared.machine.Action.{Action}
use Rattle.epoch_machine.specs.declared.machine.Action.TheVariants.{Pin, Unpin, Repin, Defer, Flush, Release}
use Rattle.epoch_machine.specs.declared.machine.Ask.TheVariants.{LoadEpoch, LoadWord, TakeBag, CallJob}
use Rattle.epoch_machine.specs.declared.machine.Answer.TheVariants.{Epoch, Word as WordFound}
use Rattle.epoch_machine.specs.declared.machine.Sizes.{Sizes}
use Rattle.epoch_machine.specs.declared.machine.Stage.{Stage}
use Rattle.epoch_machine.specs.declared.machine.Stage.TheVariants.{LoadPin, ReloadPin, LoadScan, Scan, Advance, Take}
use Rattle.epoch_machine.specs.declared.machine.Stage.TheVariants.{Calling, LoadSeal, Keep, LoadRepin, StoreRepin}
use Rattle.epoch_machine.specs.declared.machine.Stage.TheVariants.{ReloadRepin, StoreUnpinned, End}
use Rattle.epoch_machine.specs.Machine.{Machine, StageFits, rest, is_empty, ask_at, hears, holds_up, scanned}
use Rattle.epoch_machine.specs.Machine.{took_heard, gives, after_collect, first_stage}
use Rattle.epoch_laws.specs.declared.step.Call.{Call}
use Rattle.epoch_laws.specs.declared.step.Call.TheVariants.{Pin as PinCall, Unpin as UnpinCall, Repin as RepinCall}
use Rattle.epoch_laws.specs.declared.step.Call.TheVariants.{Pause, Resume, Defer as DeferCall, Flush as FlushCall}
use Rattle.epoch_laws.specs.declared.step.Call.TheVariants.{Release as ReleaseCall, DeferDestroy, Access as AccessCall}
use Rattle.epoch_laws.specs.declared.step.Deferral.{Deferral}
use Rattle.epoch_laws.specs.Run.{WorldSeat, begun_seat}
use Rattle.epoch_world.specs.Steps.{InStore, in_store, past_collect, collection_steps, steps_at, machine_steps}
use Rattle.epoch_world.specs.Steps.{steps_left, call_bound, steps_of, IsSteady}
use Rattle.epoch_laws.specs.declared.heap.access.Access.{Access}
use Rattle.epoch_laws.specs.declared.heap.access.Access.TheVariants.{Place, Point}
use Rattle.epoch_laws.specs.declared.heap.access.AccessAnswer.TheVariants.{Absent}
use Rattle.epoch_laws.specs.declared.heap.access.Change.TheVariants.{FetchUpdate}
use Rattle.epoch_laws.specs.declared.step.Progress.TheVariants.{Accesses, Ends}
use Rattle.epoch_laws.specs.declared.step.Reply.TheVariants.{Done}
use Rattle.epoch_laws.specs.Heap.{Heap, null, has_steps}

either_below : (left : Stage → ℕ) (b : Bool) (s t : Stage) (k : ℕ)
    → left s < k → left t < k → left (if b then s else t) < k
either_below left true s t k one other = one
either_below left false s t k one other = other

collect_fits : (a : Action) (sizes : Sizes) (hand : ℕ) (n : InStore) (held : List Deferral)
    → steps_at a sizes hand n (after_collect a held) ≤ past_collect a n.most
collect_fits Release sizes hand n [] = omega arith
collect_fits Release sizes hand n (job ∷ jobs) = omega arith
collect_fits _ sizes hand n held = omega arith

-- the next bag, or what follows the collection
next_bag : (m : Machine Deferral) (x k hand bound : ℕ) (n : InStore)
    → collection_steps m.action m.sizes n.most (k + 1) n.takes < bound
    → steps_at m.action m.sizes hand n
    (if k + 1 == m.sizes.collect_bags then after_collect m.action m.held else Take x (k + 1)) < bound
next_bag m x k hand bound n less =
    either_below (steps_at m.action m.sizes hand n) (k + 1 == m.sizes.collect_bags)
    (after_collect m.action m.held) (Take x (k + 1)) bound
    (omega (arith, collect_fits m.action m.sizes hand n m.held)) less

-- a cursor that isn't at its end has fewer steps left
less_at : (step : TakeStep) (takes after : ℕ)
    → (step ≡ Empty → ⊥) → (0 < takes → after < takes) → (takes ≡ 0 → step ≡ Empty) → after < takes
less_at step zero after other fewer last = absurd (other (last refl))
less_at step (suc t) after other fewer last = fewer (omega arith)

module _ (m : Machine Deferral) (puts takes most : ℕ) where
  abbrev left : ℕ → Stage → ℕ
  left takes' s = steps_at m.action m.sizes (length m.hand) (in_store puts takes' most) s

  -- A LOAD

  epoch_falls : (s : Stage) (e puts' : ℕ) → ask_at s ≡ Some LoadEpoch → puts' ≤ most
      → machine_steps (hears m s (Epoch e)) (in_store puts' takes most) < left takes s
  epoch_falls LoadPin e puts' asked few = omega arith
  epoch_falls ReloadPin e puts' asked few =
      either_below (steps_at m.action m.sizes (length m.hand) (in_store puts' takes most)) (m.pins == 1) LoadScan
      (after_collect m.action m.held) _
      (omega arith) (omega (arith, collect_fits m.action m.sizes (length m.hand) (in_store puts' takes most) m.held))
  epoch_falls LoadScan e puts' asked few = omega arith
  epoch_falls LoadSeal e puts' asked few = omega arith
  epoch_falls LoadRepin e puts' asked few =
      either_below (steps_at m.action m.sizes (length m.hand) (in_store puts' takes most)) (m.published == e) End
      (StoreRepin e) _ (omega arith) (omega arith)
  epoch_falls ReloadRepin e puts' asked few = omega arith
  epoch_falls _ e puts' asked few = absurd (cc)

  -- after the last word
  scanned_falls : (e k takes' : ℕ)
      → k < m.sizes.positions → takes' ≤ most → left takes' (scanned e) < left takes (Scan e k)
  scanned_falls e k takes' there few =
      either_below (left takes') (e == 2 ^ 63 - 1) (Take e 0) (Advance e) _ (omega arith) (omega arith)

  word_falls : (s : Stage) (k w takes' : ℕ) → ask_at s ≡ Some (LoadWord k) → k < m.sizes.positions → takes' ≤ most
      → machine_steps (hears m s (WordFound w)) (in_store puts takes' most) < left takes s
  word_falls (Scan e j) k w takes' asked there few =
      let same : j ≡ k = cc in
      either_below (left takes') (holds_up e w) (Take e 0)
      (if j + 1 == m.sizes.positions then scanned e else Scan e (j + 1)) _ (omega arith)
      (either_below (left takes') (j + 1 == m.sizes.positions) (scanned e) (Scan e (j + 1)) _
      (scanned_falls e j takes' (omega arith) few) (omega arith))
  word_falls _ k w takes' asked there few = absurd (cc)

  -- A STEP OF A COLLECTION

  take_again : (s : Stage) (x takes' : ℕ) → ask_at s ≡ Some (TakeBag x) → takes' < takes → left takes' s < left takes s
  take_again (Take y k) x takes' asked fewer = omega arith
  take_again _ x takes' asked fewer = absurd (cc)

  take_ends : (s : Stage) (x takes' : ℕ) (jobs : List Deferral) → ask_at s ≡ Some (TakeBag x)
      → machine_steps (took_heard m s Empty jobs) (in_store puts takes' most) < left takes s
  take_ends (Take y k) x takes' jobs asked =
      omega (arith, collect_fits m.action m.sizes (length m.hand) (in_store puts takes' most) m.held)
  take_ends _ x takes' jobs asked = absurd (cc)

  take_gets : (s : Stage) (x takes' : ℕ) (jobs : List Deferral)
      → ask_at s ≡ Some (TakeBag x) → StageFits m.sizes (length m.held) s → takes' < takes → length jobs ≤ 64
      → machine_steps (took_heard m s Got jobs) (in_store puts takes' most) < left takes s
  take_gets (Take y k) x takes' [] asked fits fewer few =
      next_bag m y k 0 _ (in_store puts takes' most) (omega (arith, fits.1))
  take_gets (Take y k) x takes' (job ∷ jobs) asked fits fewer few = omega (arith, fits.1)
  take_gets _ x takes' jobs asked fits fewer few = absurd (cc)

  same_again : (s : Stage) (jobs : List Deferral) → m ≡ took_heard m s Again jobs
  same_again (Take y k) jobs = refl
  same_again _ jobs = refl

  take_falls : (x takes' : ℕ) (step : TakeStep) (jobs : List Deferral)
      → ask_at m.stage ≡ Some (TakeBag x) → StageFits m.sizes (length m.held) m.stage
      → (0 < takes → takes' < takes) → (takes ≡ 0 → step ≡ Empty) → (step ≡ Got → length jobs ≤ 64)
      → machine_steps (took_heard m m.stage step jobs) (in_store puts takes' most) < machine_steps m
      (in_store puts takes most)
  take_falls x takes' Again jobs asked fits fewer last few =
      subst (λ (k : Machine Deferral). machine_steps k (in_store puts takes' most) < machine_steps m
      (in_store puts takes most)) (same_again m.stage jobs)
      (take_again m.stage x takes' asked (less_at Again takes takes' (λ e. cc) fewer last))
  take_falls x takes' Empty jobs asked fits fewer last few = take_ends m.stage x takes' jobs asked
  take_falls x takes' Got jobs asked fits fewer last few =
      take_gets m.stage x takes' jobs asked fits (less_at Got takes takes' (λ e. cc) fewer last) (few refl)

  -- A CALL

  call_falls : (s : Stage) (job : Deferral) (jobs : List Deferral) → ask_at s ≡ Some CallJob → m.hand ≡ job ∷ jobs
      → machine_steps (gives m s jobs) (in_store puts takes most) < left takes s
  call_falls (Calling x k) job [] asked is = next_bag m x k 0 _ (in_store puts takes most) (omega (arith, ap length is))
  call_falls (Calling x k) job (next ∷ jobs) asked is = omega (arith, ap length is)
  call_falls _ job jobs asked is = absurd (cc)

-- The machine now is that of the fields m, as they stand in a function of the type.

-- a load of the epoch leaves fewer steps, though a put may begin anew there
pub loaded_less : (m now after : Machine Deferral) (puts puts' takes most e : ℕ)
    → m ≡ now → ask_at now.stage ≡ Some LoadEpoch
    → after ≡ hears m m.stage (Epoch e) → puts' ≤ most
    → machine_steps after (in_store puts' takes most) < machine_steps now (in_store puts takes most)
loaded_less m now after puts puts' takes most e is asked went few =
    subst (λ (k : Machine Deferral). machine_steps after (in_store puts' takes most) < machine_steps k
    (in_store puts takes most)) is
    (subst (λ (k : Machine Deferral). machine_steps k (in_store puts' takes most) < machine_steps m
    (in_store puts takes most)) (sym went)
    (epoch_falls m puts takes most m.stage e puts' (ap (λ (k : Machine Deferral). ask_at k.stage) is ∙ asked) few))

-- so does a load of a word, though a collection may begin anew there
pub looked_less : (m now after : Machine Deferral) (puts takes takes' most x w : ℕ)
    → m ≡ now → ask_at now.stage ≡ Some (LoadWord x)
    → after ≡ hears m m.stage (WordFound w) → x < now.sizes.positions → takes' ≤ most
    → machine_steps after (in_store puts takes' most) < machine_steps now (in_store puts takes most)
looked_less m now after puts takes takes' most x w is asked went there few =
    subst (λ (k : Machine Deferral). machine_steps after (in_store puts takes' most) < machine_steps k
    (in_store puts takes most)) is
    (subst (λ (k : Machine Deferral). machine_steps k (in_store puts takes' most) < machine_steps m
    (in_store puts takes most)) (sym went)
    (word_falls m puts takes most m.stage x w takes' (ap (λ (k : Machine Deferral). ask_at k.stage) is ∙ asked)
    (subst (λ (k : Machine Deferral). x < k.sizes.positions) (sym is) there) few))

-- so does a step on a place, though the jobs of a bag may follow
pub took_less : (m now after : Machine Deferral) (puts takes takes' most x : ℕ) (step : TakeStep)
    → m ≡ now → ask_at now.stage ≡ Some (TakeBag x)
    → after ≡ took_heard m m.stage step after.hand → StageFits m.sizes (length m.held) m.stage
    → (0 < takes → takes' < takes) → (takes ≡ 0 → step ≡ Empty) → (step ≡ Got → length after.hand ≤ 64)
    → machine_steps after (in_store puts takes' most) < machine_steps now (in_store puts takes most)
took_less m now after puts takes takes' most x step is asked went fits fewer last few =
    subst (λ (k : Machine Deferral). machine_steps after (in_store puts takes' most) < machine_steps k
    (in_store puts takes most)) is
    (subst (λ (k : Machine Deferral). machine_steps k (in_store puts takes' most) < machine_steps m
    (in_store puts takes most)) (sym went)
    (take_falls m puts takes most x takes' step after.hand
    (ap (λ (k : Machine Deferral). ask_at k.stage) is ∙ asked) fits fewer last few))

-- and so does the call of a job
pub gave_less : (m now after : Machine Deferral) (puts takes most : ℕ) (job : Deferral)
    → m ≡ now → ask_at m.stage ≡ Some CallJob → m.hand ≡ job ∷ rest m.hand
    → after ≡ gives m m.stage (rest m.hand)
    → machine_steps after (in_store puts takes most) < machine_steps now (in_store puts takes most)
gave_less m now after puts takes most job is asked hand went =
    subst (λ (k : Machine Deferral). machine_steps after (in_store puts takes most) < machine_steps k
    (in_store puts takes most)) is
    (subst (λ (k : Machine Deferral). machine_steps k (in_store puts takes most) < machine_steps m
    (in_store puts takes most)) (sym went)
    (call_falls m puts takes most m.stage job (rest m.hand) asked hand))

-- A WHOLE CALL

first_fits : (a : Action) (m : Machine Deferral) (n : InStore) (slots : ℕ)
    → steps_at a m.sizes (length m.hand) n (first_stage a m) < call_bound slots m.sizes n.most + 1
first_fits Pin m n slots =
    either_below (steps_at Pin m.sizes (length m.hand) n) (m.guards == 0) LoadPin End _ (omega arith) (omega arith)
first_fits Unpin m n slots = either_below (steps_at Unpin m.sizes (length m.hand) n) (m.guards == 1) StoreUnpinned End _
    (omega arith) (omega arith)
first_fits Repin m n slots =
    either_below (steps_at Repin m.sizes (length m.hand) n) (m.guards == 1) LoadRepin End _ (omega arith) (omega arith)
first_fits Defer m n slots = either_below (steps_at Defer m.sizes (length m.hand) n)
    (length m.held == m.sizes.bag_jobs) LoadSeal Keep _ (omega arith) (omega arith)
first_fits Flush m n slots = either_below (steps_at Flush m.sizes (length m.hand) n)
    (is_empty m.held) LoadScan LoadSeal _ (omega arith) (omega arith)
first_fits Release m n slots = omega arith

access_fits : (a : Access) (b : Bool) (m : Machine Deferral) (n : InStore) (slots : ℕ)
    → steps_of slots (if b then Accesses a 0 null else Ends (Done Absent)) m n < call_bound slots m.sizes n.most + 1
access_fits a false m n slots = omega arith
access_fits (Place v) true m n slots = omega arith
access_fits (Point g spot (FetchUpdate tries by)) true m n slots = omega arith
access_fits _ true m n slots = omega arith

-- after the Begin of any call
pub begun_fits : (c : Call) (seat : WorldSeat) (n : InStore) (slots : ℕ)
    → steps_left slots (begun_seat c seat) n < call_bound slots seat.machine.sizes n.most + 1
begun_fits PinCall seat n slots = first_fits Pin seat.machine n slots
begun_fits (UnpinCall g) seat n slots = first_fits Unpin seat.machine n slots
begun_fits (RepinCall (Some g)) seat n slots = first_fits Repin seat.machine n slots
begun_fits (Pause (Some g)) seat n slots = first_fits Unpin seat.machine n slots
begun_fits (Resume (Some g)) seat n slots = first_fits Pin seat.machine n slots
begun_fits (DeferCall (Some g)) seat n slots = first_fits Defer seat.machine n slots
begun_fits (FlushCall (Some g)) seat n slots = first_fits Flush seat.machine n slots
begun_fits ReleaseCall seat n slots = first_fits Release seat.machine n slots
begun_fits (DeferDestroy (Some g) ptr) seat n slots = first_fits Defer seat.machine n slots
begun_fits (AccessCall a) seat n slots = access_fits a (has_steps a) seat.machine n slots
begun_fits _ seat n slots = omega arith

-- what begins has made no step of an update
pub begun_steady : (h : Heap) (c : Call) (seat : WorldSeat) → IsSteady h (begun_seat c seat).progress
begun_steady h (RepinCall (Some g)) seat = tt
begun_steady h (Pause (Some g)) seat = tt
begun_steady h (Resume (Some g)) seat = tt
begun_steady h (DeferCall (Some g)) seat = tt
begun_steady h (FlushCall (Some g)) seat = tt
begun_steady h (DeferDestroy (Some g) ptr) seat = tt
begun_steady h (AccessCall a) seat = at_first a (has_steps a)
  where
    at_first : (a : Access) (more : Bool) → IsSteady h (if more then Accesses a 0 null else Ends (Done Absent))
    at_first (Point g spot (FetchUpdate tries by)) true = tt
    at_first _ true = tt
    at_first a false = tt
begun_steady h _ seat = tt
