-- No job is lost: in each step of a participant, in each call, and among all participants.
use Rattle.std.proofs.Common.{◌≡◌, ◌≢◌, ◌∙◌, ℕ, ◌+◌, List, [], ◌∷◌}
use Rattle.std.proofs.Common.{Option, Some, refl, sym, ap, subst, inl, inr, arith}
use Rattle.std.proofs.lemmas.List.{append-nil}
use Rattle.std.proofs.lemmas.List.Sums.{sum_by-append, sum_by-cons}
use Rattle.std.proofs.lemmas.Option.{same_Some}
use Rattle.std.specs.Prelude.{sum_by}
use Rattle.atomic_table.specs.Table.{State}
use Rattle.epoch_bags.specs.Bags.{Sealed}
use Rattle.epoch_tables.specs.SharedPlaces.{PlaceMe, PlacesAgree, IsBalanced}
use Rattle.epoch_tables.specs.declared.shared_places.view.PlaceView.{PlaceView}
use Rattle.epoch_bags.specs.declared.queue.TakeStep.{TakeStep}
use Rattle.epoch_bags.specs.declared.queue.TakeStep.TheVariants.{Again as TakeAgain, Empty as TakeEnds, Got}
use Rattle.epoch_machine.specs.declared.machine.Action.{Action}
use Rattle.epoch_machine.specs.declared.machine.Answer.{Answer}
use Rattle.epoch_machine.specs.declared.machine.Answer.TheVariants.{Epoch, Word, Stored, Job}
use Rattle.epoch_machine.specs.declared.machine.Ask.{Ask}
use Rattle.epoch_machine.specs.declared.machine.Ask.TheVariants.{LoadEpoch, LoadWord, StorePinned, StoreRepinned}
use Rattle.epoch_machine.specs.declared.machine.Ask.TheVariants.{StoreUnpinned, StoreFree, StoreEpoch, PutBag, TakeBag}
use Rattle.epoch_machine.specs.declared.machine.Ask.TheVariants.{KeepJob, CallJob}
use Rattle.epoch_machine.specs.declared.machine.Stage.{Stage}
use Rattle.epoch_machine.specs.declared.machine.Stage.TheVariants.{Take}
use Rattle.epoch_machine.specs.Machine.{Machine, ask_at, begun, ended, took_heard}
use Rattle.epoch_machine.specs.Asks.{Reply, Heard, PutStepped, TakeStepped, JobGiven, Log, Exchange, IsReply, told}
use Rattle.epoch_handles.specs.Drives.{Sight, Cursors, Situation, Performs, Performed, Exchanges}
use Rattle.epoch_handles.specs.Told.{IsExpiryWithin, AreExpiriesWithin}
use Rattle.epoch_handles.specs.ThreadGrace.{job_given, jobs_given, jobs_of_each, GetsBags}
use Rattle.epoch_handles.specs.JobsKept.{job_kept, jobs_kept, left_to_call, has_weight, slots_weight, KeepsJobs}
use Rattle.epoch_handles.specs.JobsKept.{leaves_weight, wins_weight, with_action, jobs_weight, all_kept, all_given}
use Rattle.epoch_handles.specs.JobsKept.{PerformedCalls, HasPerformed, IsRegistered, Life, AreLivesOf, LosesNoJob}
use Rattle.epoch_handles.proofs.CallsGiven.{one_gives, owed, begins_with_none}
use Rattle.epoch_handles.proofs.Expiries.{expiries_seen}
use Rattle.epoch_handles.proofs.HeldJobs.{NoneLeft, told_none, told_held, begun_none, put_out}
use Rattle.epoch_handles.proofs.SlotsMoved.{put_moved, TakeSlots, zero_takes, got_weight, take_moved}
use Rattle.epoch_handles.proofs.Telling.{passes_or_not}

-- WHAT IS IN HAND AT A STAGE

module _ {J : Type 0} (weigh : J → ℕ) where
  -- a bag is in hand at a place in a collection alone
  abbrev pub SlotsFit : Stage → Cursors → List (ℕ × Option (Sealed J)) → Type 0
  SlotsFit (Take x k) c slots = TakeSlots weigh c.take slots
  SlotsFit stage c slots = slots_weight weigh slots ≡ 0

  pub zero_fits : (s : Stage) (c : Cursors) (slots : List (ℕ × Option (Sealed J)))
      → slots_weight weigh slots ≡ 0 → SlotsFit s c slots
  zero_fits (Take x k) c slots zero = zero_takes weigh c.take slots zero
  zero_fits _ c slots zero = zero

  -- outside of a collection nothing is in hand
  rests_fit : (s : Stage) (ask : Ask) (c : Cursors) (slots : List (ℕ × Option (Sealed J))) → ask_at s ≡ Some ask
      → ((x : ℕ) → ask ≢ TakeBag x) → SlotsFit s c slots → slots_weight weigh slots ≡ 0
  rests_fit (Take x k) ask c slots is other fits = absurd (other x (sym (same_Some (TakeBag x) ask is)))
  rests_fit _ ask c slots is other fits = fits

  -- what holds of a participant between any two of its steps
  abbrev pub Fits : Situation J → Type 0
  Fits at = NoneLeft at.machine × SlotsFit at.machine.stage at.cursors at.sight.places.1

  -- where a step of a collection leaves the machine
  took_fits : (m : Machine J) (s : Stage) (x : ℕ) (step : TakeStep) (jobs : List J) (c d : Cursors)
      (slots : List (ℕ × Option (Sealed J))) → m.stage ≡ s → ask_at s ≡ Some (TakeBag x)
      → (step ≡ TakeAgain → TakeSlots weigh d.take slots) → (step ≢ TakeAgain → slots_weight weigh slots ≡ 0)
      → SlotsFit (took_heard m s step jobs).stage d slots
  took_fits m (Take y k) x TakeAgain jobs c d slots is asked again other =
      subst (λ z. SlotsFit z d slots) (sym is) (again refl)
  took_fits m (Take y k) x TakeEnds jobs c d slots is asked again other =
      zero_fits (took_heard m (Take y k) TakeEnds jobs).stage d slots (other (λ same. absurd (cc same)))
  took_fits m (Take y k) x Got jobs c d slots is asked again other =
      zero_fits (took_heard m (Take y k) Got jobs).stage d slots (other (λ same. absurd (cc same)))
  took_fits m _ x step jobs c d slots is asked again other = absurd (cc asked)

  take_fits : (s : Stage) (x : ℕ) (c : Cursors) (slots : List (ℕ × Option (Sealed J))) → ask_at s ≡ Some (TakeBag x)
      → SlotsFit s c slots → TakeSlots weigh c.take slots
  take_fits (Take y k) x c slots asked fits = fits
  take_fits _ x c slots asked fits = absurd (cc asked)

-- ONE STEP

module _ {J : Type 0} where
  -- no step but those of puts and of collections is at a place
  stays_heard : (places : ℕ) (before after : Situation J) (ask : Ask) (a : Answer J)
      → Performs places before ask (Heard a) after → after.sight.places ≡ before.sight.places
  stays_heard places before after LoadEpoch (Epoch e) (rises, is, start) = ap (λ (z : Sight J). z.places) is
  stays_heard places before after (StorePinned e) Stored (read, is, same) = ap (λ (z : Sight J). z.places) is
  stays_heard places before after (StoreRepinned e) Stored (read, is, same) = ap (λ (z : Sight J). z.places) is
  stays_heard places before after StoreUnpinned Stored (is, same) = ap (λ (z : Sight J). z.places) is
  stays_heard places before after StoreFree Stored (is, same) = ap (λ (z : Sight J). z.places) is
  stays_heard places before after (LoadWord k) (Word w) (is_word, same, (e, scan, passed, held)) =
      elim (passes_or_not e w is_word) [
        | inl lets ↦ ap (λ (z : Sight J). z.places) (passed lets)
        | inr holds ↦ ap (λ (z : Sight J). z.places) (held holds)
      ]
  stays_heard places before after (StoreEpoch e) Stored (ahead, is, same) = ap (λ (z : Sight J). z.places) is
  stays_heard places before after KeepJob (Job job) (is, same) = ap (λ (z : Sight J). z.places) is
  stays_heard places before after ask a performs = absurd performs

  no_take_heard : (places : ℕ) (before after : Situation J) (ask : Ask) (a : Answer J)
      → Performs places before ask (Heard a) after → (x : ℕ) → ask ≢ TakeBag x
  no_take_heard places before after ask a performs x is =
      subst (λ z. Performs places before z (Heard a) after) is performs

  -- the bags got by a step, by the reply
  abbrev got_by : (J → ℕ) → Reply J → ℕ
  got_by weigh (TakeStepped step jobs) = got_weight weigh jobs step
  got_by weigh reply = 0

  -- What a step moves at the places, and that it leaves a participant as it has to be.
  record Moves (weigh : J → ℕ) (before : Situation J) (reply : Reply J) (after : Situation J) : Type 0 where
    pub moved : slots_weight weigh before.sight.places.1 + wins_weight weigh after.sight.places.0
        + leaves_weight weigh before.sight.places.0 + put_out weigh before.machine.held reply
        ≡ slots_weight weigh after.sight.places.1 + leaves_weight weigh after.sight.places.0
        + wins_weight weigh before.sight.places.0 + got_by weigh reply
    pub fits : SlotsFit weigh (told before.machine reply).stage after.cursors after.sight.places.1

  still_moves : (weigh : J → ℕ) (before after : Situation J) (reply : Reply J)
      → after.sight.places ≡ before.sight.places → slots_weight weigh before.sight.places.1 ≡ 0
      → put_out weigh before.machine.held reply ≡ 0 → got_by weigh reply ≡ 0 → Moves weigh before reply after
  still_moves weigh before after reply is none no_put no_got =
      let same_slots = ap (λ (z : PlaceMe J). slots_weight weigh z.1) is in
      let same_left = ap (λ (z : PlaceMe J). leaves_weight weigh z.0) is in
      let same_won = ap (λ (z : PlaceMe J). wins_weight weigh z.0) is in record {
        moved = omega arith;
        fits = zero_fits weigh (told before.machine reply).stage after.cursors after.sight.places.1
            (same_slots ∙ none);
      }

  got_same : (weigh : J → ℕ) (step : TakeStep) (jobs : List J) (bag : Sealed J) → (step ≡ Got → jobs ≡ bag.jobs)
      → got_weight weigh bag.jobs step ≡ got_weight weigh jobs step
  got_same weigh Got jobs bag of = ap (λ (l : List J). sum_by weigh l) (sym (of refl))
  got_same weigh TakeAgain jobs bag of = refl
  got_same weigh TakeEnds jobs bag of = refl

  one_moves : (weigh : J → ℕ) (places : ℕ) (before after : Situation J) (ask : Ask) (reply : Reply J)
      → ask_at before.machine.stage ≡ Some ask → Performs places before ask reply after → Fits weigh before
      → Moves weigh before reply after
  one_moves weigh places before after ask (Heard a) asked performs fits =
      still_moves weigh before after (Heard a) (stays_heard places before after ask a performs)
      (rests_fit weigh before.machine.stage ask before.cursors before.sight.places.1 asked
      (no_take_heard places before after ask a performs) fits.1) refl refl
  one_moves weigh places before after CallJob (JobGiven job) asked (is, same) fits =
      still_moves weigh before after (JobGiven job) (ap (λ (z : Sight J). z.places) is)
      (rests_fit weigh before.machine.stage CallJob before.cursors before.sight.places.1 asked
      (λ x call. absurd (cc call)) fits.1) refl refl
  one_moves weigh places before after (PutBag seal) (PutStepped step) asked (is, same, moves) fits =
      let none = rests_fit weigh before.machine.stage (PutBag seal) before.cursors before.sight.places.1 asked
      (λ x put. absurd (cc put)) fits.1 in
      let put = put_moved weigh places seal before.machine.held before.cursors.put after.cursors.put step
      before.sight.places after.sight.places moves none in record {
        moved = omega (arith, none, put.0, put.1);
        fits = zero_fits weigh (told before.machine (PutStepped step)).stage after.cursors after.sight.places.1 put.0;
      }
  one_moves weigh places before after (TakeBag x) (TakeStepped step jobs) asked (is, same, (bag, of, moves)) fits =
      let take = take_moved weigh places x before.cursors.take after.cursors.take step bag before.sight.places
      after.sight.places moves
      (take_fits weigh before.machine.stage x before.cursors before.sight.places.1 asked fits.1) in
      let same_got = got_same weigh step jobs bag of in record {
        moved = omega (arith, take.0, same_got);
        fits = took_fits weigh before.machine before.machine.stage x step jobs before.cursors after.cursors
            after.sight.places.1 refl asked take.1 take.2;
      }
  one_moves weigh places before after ask reply asked performs fits = absurd performs

  -- the bags that were got weigh what the reply says
  got_jobs : (weigh : J → ℕ) (v : Sight J) (reply : Reply J) (bags : List (Sealed J)) → GetsBags v reply bags
      → sum_by weigh (jobs_of_each bags) ≡ got_by weigh reply
  got_jobs weigh v (TakeStepped Got jobs) bags (place, bag, hand, of, is) =
      ap (λ (l : List (Sealed J)). sum_by weigh (jobs_of_each l)) is
      ∙ ap (λ (l : List J). sum_by weigh l) (append-nil bag.jobs ∙ sym of)
  got_jobs weigh v (TakeStepped TakeAgain jobs) bags is = ap (λ (l : List (Sealed J)). sum_by weigh (jobs_of_each l)) is
  got_jobs weigh v (TakeStepped TakeEnds jobs) bags is = ap (λ (l : List (Sealed J)). sum_by weigh (jobs_of_each l)) is
  got_jobs weigh v (Heard a) bags is = ap (λ (l : List (Sealed J)). sum_by weigh (jobs_of_each l)) is
  got_jobs weigh v (PutStepped step) bags is = ap (λ (l : List (Sealed J)). sum_by weigh (jobs_of_each l)) is
  got_jobs weigh v (JobGiven job) bags is = ap (λ (l : List (Sealed J)). sum_by weigh (jobs_of_each l)) is

  -- what is left to call after a step, without what is given to call
  one_called : (weigh : J → ℕ) (places seen : ℕ) (before after : Situation J) (ask : Ask) (reply : Reply J)
      → ask_at before.machine.stage ≡ Some ask → IsReply ask before.machine.hand reply
      → Performs places before ask reply after → IsExpiryWithin seen ask
      → sum_by weigh (owed before.machine) + got_by weigh reply
      ≡ sum_by weigh (job_given reply) + sum_by weigh (owed (told before.machine reply))
  one_called weigh places seen before after ask reply asked is performs within =
      let gives = one_gives places seen before after ask reply asked is performs within in
      let got = got_jobs weigh before.sight reply gives.got gives.gets in
      let jobs = ap (λ (l : List J). sum_by weigh l) gives.jobs in
      omega (
        arith,
        sum_by-append weigh (owed before.machine) (jobs_of_each gives.got),
        sum_by-append weigh (job_given reply) (owed (told before.machine reply)),
      )

  -- One step keeps each job.
  one_keeps : (weigh : J → ℕ) (places seen : ℕ) (before after : Situation J) (x : Exchange J)
      → Exchanges places before x after → IsExpiryWithin seen x.ask → Fits weigh before
      → KeepsJobs weigh before (job_kept x.reply) (job_given x.reply) after × Fits weigh after
  one_keeps weigh places seen before after x exchange within fits =
      let m = before.machine in
      let moves = one_moves weigh places before after x.ask x.reply exchange.asked exchange.performs fits in
      let called = one_called weigh places seen before after x.ask x.reply exchange.asked exchange.is_reply
      exchange.performs within in
      let held = told_held weigh m x.ask x.reply exchange.asked exchange.is_reply fits.0 in
      let now_held = ap (λ (n : Machine J). sum_by weigh n.held) exchange.machine in
      let now_owed = ap (λ (n : Machine J). sum_by weigh (owed n)) exchange.machine in
      let moved = moves.moved in (
        omega arith,
        (
          subst (λ (n : Machine J). NoneLeft n) (sym exchange.machine) (told_none m x.reply fits.0),
          subst (λ (n : Machine J). SlotsFit weigh n.stage after.cursors after.sight.places.1) (sym exchange.machine)
              moves.fits,
        ),
      )

-- A CALL

module _ {J : Type 0} where
  all_keeps : (weigh : J → ℕ) (places seen : ℕ) (before after : Situation J) (log : Log J)
      → Performed places before log after → AreExpiriesWithin seen log → Fits weigh before
      → KeepsJobs weigh before (jobs_kept log) (jobs_given log) after × Fits weigh after
  all_keeps weigh places seen before after [] same within fits =
      let has = ap (λ (z : Situation J). has_weight weigh z) same in
      let wins = ap (λ (z : Situation J). wins_weight weigh z.sight.places.0) same in
      let leaves = ap (λ (z : Situation J). leaves_weight weigh z.sight.places.0) same in
      (omega arith, subst (λ (z : Situation J). Fits weigh z) (sym same) fits)
  all_keeps weigh places seen before after (x ∷ log) (next, exchange, behind) within fits =
      let one = one_keeps weigh places seen before next x exchange within.0 fits in
      let more = all_keeps weigh places seen next after log behind within.1 one.1 in
      let first = one.0 in
      let others = more.0 in (
        omega (
          arith,
          sum_by-append weigh (job_kept x.reply) (jobs_kept log),
          sum_by-append weigh (job_given x.reply) (jobs_given log),
        ),
        more.1,
      )

  begun_fits : (weigh : J → ℕ) (action : Action) (before : Situation J)
      → slots_weight weigh before.sight.places.1 ≡ 0 → Fits weigh (with_action action before)
  begun_fits weigh action before none = (
    begun_none action before.machine,
    zero_fits weigh (begun action before.machine).stage before.cursors before.sight.places.1 none,
  )

  call_keeps : (weigh : J → ℕ) (places : ℕ) (action : Action) (before after : Situation J) (log : Log J)
      → slots_weight weigh before.sight.places.1 ≡ 0 → Performed places (with_action action before) log after
      → KeepsJobs weigh (with_action action before) (jobs_kept log) (jobs_given log) after × Fits weigh after
  call_keeps weigh places action before after log none performed =
      all_keeps weigh places after.sight.words.seen (with_action action before) after log performed
      (expiries_seen places action before after log performed) (begun_fits weigh action before none)

  pub keeps_jobs_in_call : (places : ℕ) (action : Action) (before after : Situation J) (log : Log J)
      → before.sight.places.1 ≡ [] → Performed places (with_action action before) log after
      → (weigh : J → ℕ) → KeepsJobs weigh (with_action action before) (jobs_kept log) (jobs_given log) after
  keeps_jobs_in_call places action before after log rests performed weigh =
      (call_keeps weigh places action before after log
      (ap (λ (l : List (ℕ × Option (Sealed J))). slots_weight weigh l) rests) performed).0

-- ALL THREADS

module _ {J : Type 0} where
  -- the calls of a participant, one after another
  calls_keep : (weigh : J → ℕ) (places : ℕ) (before : Situation J) (call : Action × Log J)
      (calls : List (Action × Log J)) (after : Situation J) → slots_weight weigh before.sight.places.1 ≡ 0
      → PerformedCalls places before call calls after
      → KeepsJobs weigh (with_action call.0 before) (all_kept (call ∷ calls)) (all_given (call ∷ calls)) after
  calls_keep weigh places before call [] after none performed =
      let one = (call_keeps weigh places call.0 before after call.1 none performed).0 in
      omega (arith, sum_by-append weigh (jobs_kept call.1) [], sum_by-append weigh (jobs_given call.1) [])
  calls_keep weigh places before call (next ∷ calls) after none (last, performed, over, behind) =
      let one = call_keeps weigh places call.0 before last call.1 none performed in
      let first = one.0 in
      let rests = subst (λ (s : Stage). SlotsFit weigh s last.cursors last.sight.places.1) over one.1.1 in
      let idle : Situation J = record last { machine = ended last.machine } in
      let others = calls_keep weigh places idle next calls after rests behind in
      let owed_last = ap (λ (s : Stage). sum_by weigh (left_to_call s last.machine.hand)) over in
      let owed_next = ap (λ (l : List J). sum_by weigh l) (begins_with_none next.0 idle.machine) in
      omega (
        arith,
        sum_by-append weigh (jobs_kept call.1) (all_kept (next ∷ calls)),
        sum_by-append weigh (jobs_given call.1) (all_given (next ∷ calls)),
      )

  -- the same from the registration on, when a participant has nothing
  lived_keeps : (weigh : J → ℕ) (places : ℕ) (start : Situation J) (calls : List (Action × Log J)) (now : Situation J)
      → IsRegistered start → HasPerformed places start calls now
      → sum_by weigh (all_kept calls) + wins_weight weigh now.sight.places.0
      ≡ has_weight weigh now + sum_by weigh (all_given calls) + leaves_weight weigh now.sight.places.0
  lived_keeps weigh places start [] now registered same =
      let held = ap (λ (m : Machine J). sum_by weigh m.held) registered.machine in
      let owes = ap (λ (m : Machine J). sum_by weigh (owed m)) registered.machine in
      let slots = ap (λ (z : PlaceMe J). slots_weight weigh z.1) registered.places in
      let left = ap (λ (z : PlaceMe J). leaves_weight weigh z.0) registered.places in
      let won = ap (λ (z : PlaceMe J). wins_weight weigh z.0) registered.places in
      let has = ap (λ (z : Situation J). has_weight weigh z) same in
      let wins = ap (λ (z : Situation J). wins_weight weigh z.sight.places.0) same in
      let leaves = ap (λ (z : Situation J). leaves_weight weigh z.sight.places.0) same in
      omega arith
  lived_keeps weigh places start (call ∷ calls) now registered performed =
      let held = ap (λ (m : Machine J). sum_by weigh m.held) registered.machine in
      let slots : slots_weight weigh start.sight.places.1 ≡ 0 =
      ap (λ (z : PlaceMe J). slots_weight weigh z.1) registered.places in
      let left = ap (λ (z : PlaceMe J). leaves_weight weigh z.0) registered.places in
      let won = ap (λ (z : PlaceMe J). wins_weight weigh z.0) registered.places in
      let owes = ap (λ (l : List J). sum_by weigh l) (begins_with_none call.0 start.machine) in
      let all = calls_keep weigh places start call calls now slots performed in
      omega arith

  -- the same of all participants
  lives_keep : (weigh : J → ℕ) (places : ℕ) (views : List (PlaceView J)) (lives : List (Life J))
      → AreLivesOf places views lives
      → sum_by (λ life. sum_by weigh (all_kept life.calls)) lives + sum_by (λ view. wins_weight weigh view) views
      ≡ sum_by (λ life. has_weight weigh life.now) lives
      + sum_by (λ life. sum_by weigh (all_given life.calls)) lives + sum_by (λ view. leaves_weight weigh view) views
  lives_keep weigh places [] [] are = refl
  lives_keep weigh places [] (life ∷ lives) are = absurd are
  lives_keep weigh places (view ∷ views) [] are = absurd are
  lives_keep weigh places (view ∷ views) (life ∷ lives) (is, are) =
      let one = lived_keeps weigh places life.start life.calls life.now is.registered is.performed in
      let won = ap (λ (v : PlaceView J). wins_weight weigh v) is.view_now in
      let left = ap (λ (v : PlaceView J). leaves_weight weigh v) is.view_now in
      let others = lives_keep weigh places views lives are in
      omega (
        arith,
        sum_by-cons (λ (l : Life J). sum_by weigh (all_kept l.calls)) life lives,
        sum_by-cons (λ (l : Life J). has_weight weigh l.now) life lives,
        sum_by-cons (λ (l : Life J). sum_by weigh (all_given l.calls)) life lives,
        sum_by-cons (λ (v : PlaceView J). wins_weight weigh v) view views,
        sum_by-cons (λ (v : PlaceView J). leaves_weight weigh v) view views,
      )

  pub loses_no_job : ((places : ℕ) (s : State (Option (Sealed J)) (PlaceView J)) → PlacesAgree places s
      → IsBalanced s.views s.homes) → LosesNoJob J
  loses_no_job keeps_bags places s lives agree are weigh =
      let all = lives_keep weigh places s.views lives are in
      let bags = keeps_bags places s agree (jobs_weight weigh) in
      omega arith
