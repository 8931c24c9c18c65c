-- The reply of a Go may stand, and what it tells agrees with the participant's seat after it.
use Rattle.std.proofs.Common.{◌≡◌, ◌≢◌, ℕ, ◌+◌, true, false, List, [], Option, Some, None, refl, ap, sym, subst, ◌∙◌}
use Rattle.epoch_cells.specs.declared.fault.Fault.TheVariants.{Idle as IdleFault}
use Rattle.epoch_bags.specs.declared.queue.PutStep.{PutStep}
use Rattle.epoch_bags.specs.declared.queue.PutStep.TheVariants.{Again, Done as PutDone, Full}
use Rattle.epoch_bags.specs.declared.queue.TakeStep.{TakeStep}
use Rattle.epoch_bags.specs.declared.queue.TakeStep.TheVariants.{Again as TakeAgain, Empty, Got}
use Rattle.epoch_machine.specs.declared.machine.Stage.{Stage}
use Rattle.epoch_machine.specs.declared.machine.Stage.TheVariants.{Idle as Resting, LoadPin, StorePin, ReloadPin}
use Rattle.epoch_machine.specs.declared.machine.Stage.TheVariants.{LoadScan, Scan, Advance, Take, Calling, LoadSeal}
use Rattle.epoch_machine.specs.declared.machine.Stage.TheVariants.{Put, Keep, LoadRepin, StoreRepin, ReloadRepin}
use Rattle.epoch_machine.specs.declared.machine.Stage.TheVariants.{StoreUnpinned, StoreFree, End}
use Rattle.epoch_machine.specs.declared.machine.Answer.TheVariants.{Stored, Job}
use Rattle.epoch_machine.specs.Machine.{Machine, with_stage, after_pin, ask_at, hears, put_heard, took_heard, gives}
use Rattle.epoch_laws.specs.declared.step.Call.{Call}
use Rattle.epoch_laws.specs.declared.step.Call.TheVariants.{Defer, DeferDestroy}
use Rattle.epoch_laws.specs.declared.heap.access.AccessAnswer.{AccessAnswer}
use Rattle.epoch_laws.specs.declared.heap.access.AccessAnswer.TheVariants.{Unit as UnitAnswer, Released}
use Rattle.epoch_laws.specs.declared.step.Step.TheVariants.{Go}
use Rattle.epoch_laws.specs.declared.step.Reply.{Reply}
use Rattle.epoch_laws.specs.declared.step.Reply.TheVariants.{Stepped, Pinned as PinnedReply, Unpinned as UnpinnedReply}
use Rattle.epoch_laws.specs.declared.step.Reply.TheVariants.{Repinned, Deferred, Called as CalledReply, CalledNow, Done}
use Rattle.epoch_laws.specs.declared.step.Reply.TheVariants.{Refused}
use Rattle.epoch_laws.specs.declared.step.Deferral.{Deferral}
use Rattle.epoch_laws.specs.declared.step.Word.{Word}
use Rattle.epoch_laws.specs.declared.step.Word.TheVariants.{Free, Unpinned, Pinned}
use Rattle.epoch_laws.specs.declared.step.Progress.{Progress}
use Rattle.epoch_laws.specs.declared.step.Progress.TheVariants.{Idle, Driven, CallsNow, Ends, Accesses}
use Rattle.epoch_laws.specs.Run.{WorldSeat, State, seat_of, position_word, word_number, with_seat, with_word}
use Rattle.epoch_laws.specs.Run.{with_machine, free_seat, end_reply, ended_seat, DrivesCall, DoesGo, access_reply}
use Rattle.epoch_laws.specs.Run.{accessed_seat, removed_by}
use Rattle.epoch_laws.specs.Lawful.{Told, after_done, after_refused, after_go, told_after, MayPin, MayUnpin, MayRepin}
use Rattle.epoch_laws.specs.Lawful.{MayDefer, MayCall, MayCallNow, HasTold, AnswerFits, HasToldRefused, MayTell}
use Rattle.epoch_laws.proofs.SeatLemmas.{seat_there}
use Rattle.epoch_laws.proofs.SeatLinks.{action_of, BeganUnder, IsDriven, IsLinked, follows_at}
use Rattle.epoch_laws.proofs.GuardLists.{has_any, none_is}
use Rattle.epoch_laws.proofs.ToldAtStages.{ToldAt, told_repinned, told_kept, may_call, machine_collected}
use Rattle.epoch_laws.proofs.ToldAtStages.{machine_pinned, machine_scanned, machine_called, machine_put}
use Rattle.epoch_laws.proofs.ToldAtStages.{machine_unpinned, machine_reloaded}
use Rattle.epoch_laws.proofs.EventsAgree.{PinnedByGuards, ReplyFits, ToldOf, Agrees, AllAgree, seat_agrees, told_agrees}
use Rattle.epoch_laws.proofs.EventsAtEnd.{Tells, end_agrees}
use Rattle.epoch_laws.specs.declared.heap.access.Access.{Access}
use Rattle.epoch_laws.specs.declared.heap.access.Accessed.{Accessed}
use Rattle.epoch_laws.specs.declared.heap.access.Accessed.TheVariants.{Again, Answers, NoSlot}
use Rattle.epoch_laws.specs.declared.heap.access.Ptr.{Ptr}
use Rattle.epoch_cells.specs.declared.cells.name.Name.{Name}
use Rattle.epoch_bags.specs.declared.job.Called.{Called}
use Rattle.epoch_laws.specs.Heap.{outcome_of, heap_after_job}
use Rattle.epoch_laws.proofs.AccessesTold.{IsTold, told_by_touch}

-- what a step of p has to show: its reply may stand, and what is told from then on agrees with the seats
abbrev pub Shows : State → (ℕ → Told) → ℕ → Reply → Type 0
Shows new told p reply = MayTell p (told p) reply × AllAgree new (λ q. told_after q (told q) (Go p) reply)

-- a call that calls a job at once is done then
now_told : (call : Option Call) (t : Told) → MayCallNow call → t.did_call_now ≡ true
    → HasTold call t × AnswerFits call UnitAnswer
    × ((answer : AccessAnswer) → after_done call answer t ≡ after_refused t)
now_told (Some (Defer None)) t may did = (did, tt, λ answer. refl)
now_told (Some (DeferDestroy None ptr)) t may did = (did, tt, λ answer. refl)
now_told _ t may did = absurd may

-- an event of a call under way changes none of these
abbrev KeepsCall : Told → Told → Type 0
KeepsCall t u = (u.registered ≡ t.registered) × (u.call ≡ t.call) × (u.guards ≡ t.guards) × (u.paused ≡ t.paused)

module _ (old new : State) (told : ℕ → Told) (reply : Reply) (h : AllAgree old told) (p : ℕ)
    (taken : position_word old p ≢ Free) (linked : IsLinked old.sizes (seat_of old p)) where
  abbrev seat : WorldSeat
  seat = seat_of old p

  abbrev m : Machine Deferral
  m = seat.machine

  abbrev t : Told
  t = told p

  abbrev Goal : Type 0
  Goal = Shows new told p reply

  -- the seats of this state are those before the step, but for that of p
  abbrev Writes : State → WorldSeat → Type 0
  Writes last after = (q : ℕ) → seat_of last q ≡ seat_of (with_seat old p after) q

  -- the step tells this of p, and writes its seat alone
  tells : (tell : Reply) (after : WorldSeat) (last : State) → Tells p t tell after
      → reply ≡ tell → new ≡ last → Writes last after → Goal
  tells tell after last (may, own) told_so e writes = subst (λ (r : Reply). Shows new told p r) (sym told_so)
      (subst (λ (s : State). Shows s told p tell) (sym e) (may, agrees))
    where
      agrees : AllAgree last (λ q. told_after q (told q) (Go p) tell)
      agrees q = subst (λ (at : WorldSeat). Agrees (told_after q (told q) (Go p) tell) at) (sym (writes q))
          (seat_agrees old told (λ u. after_go u tell) p after h (seat_there old p taken) own q)

  module _ (c : Call) (drive : seat.progress ≡ Driven c) where
    abbrev At : Stage → Type 0
    At s = ToldAt t c m.full s

    is_driven : IsDriven c m seat.guards
    is_driven = follows_at old.sizes seat linked (Driven c) drive

    drives : m.action ≡ action_of c
    drives = is_driven.action

    under : BeganUnder c t.guards
    under = subst (λ (guards : List ℕ). BeganUnder c guards) (sym (h p).guards) is_driven.under

    told_call : (t.call ≡ Some c) × At m.stage
    told_call = subst (λ (progress : Progress). ToldOf t m progress) drive (h p).told

    -- what may stand in the call c may in the call under way
    in_call : (P : Option Call → Type 0) → P (Some c) → P t.call
    in_call P may = subst P (sym told_call.0) may

    -- the call goes on
    goes_on : (w : Word) (n : Machine Deferral) (u : Told) → KeepsCall t u → w ≢ Free → ToldAt u c n.full n.stage
        → Agrees u (with_word seat w n)
    goes_on w n u (registered, call, guards, paused) kept at = record {
      guards = guards ∙ (h p).guards;
      paused = paused ∙ (h p).paused;
      told = subst (λ (progress : Progress). ToldOf u n progress) (sym drive) (call ∙ told_call.0, at);
      here = λ word. registered ∙ (h p).here taken;
      away = λ free. absurd (kept free);
    }

    -- the step tells nothing, and the machine goes on
    steps : (n : Machine Deferral) (last : State) → ToldAt t c n.full n.stage
        → reply ≡ Stepped → new ≡ last → Writes last (with_machine seat n) → Goal
    steps n last at =
        tells Stepped (with_machine seat n) last (tt, goes_on seat.word n t (refl, refl, refl, refl) taken at)

    moves : (s : Stage) → At s
        → (reply ≡ Stepped) × (new ≡ with_seat old p (with_machine seat (with_stage m s))) → Goal
    moves s at did = steps (with_stage m s) _ at did.0 did.1 (λ q. refl)

    tell_put : (seal : ℕ) (step : PutStep) (last : State) → At (Put seal)
        → reply ≡ Stepped → new ≡ last → Writes last (with_machine seat (put_heard m step)) → Goal
    tell_put seal Again last at = steps m last told_call.1
    tell_put seal PutDone last (told, on) =
        steps (put_heard m PutDone) last (machine_put t c m drives under false told on)
    tell_put seal Full last (told, on) =
        steps (put_heard m Full) last (machine_put t c m drives under true told on)

    tell_take : (x k : ℕ) (step : TakeStep) (jobs : List Deferral) (last : State) → At (Take x k)
        → reply ≡ Stepped → new ≡ last → Writes last (with_machine seat (took_heard m (Take x k) step jobs)) → Goal
    tell_take x k TakeAgain jobs last at = steps m last told_call.1
    tell_take x k Empty jobs last (told, on) =
        steps (took_heard m (Take x k) Empty jobs) last (machine_collected t c m drives under told on)
    tell_take x k Got jobs last (told, on) =
        steps (took_heard m (Take x k) Got jobs) last (machine_called t c m drives under x k jobs told on)

    -- nothing is told of a position that was released
    freed : At StoreFree → Tells p t (Done Released) (free_seat old.sizes)
    freed (told, on) = (
      (
        in_call (λ call. HasTold call t) (subst (λ (d : Call). HasTold (Some d) t) (sym told.0) (told.1, told.2)),
        in_call (λ call. AnswerFits call Released) (subst (λ (d : Call). AnswerFits (Some d) Released) (sym told.0) tt),
      ),
      subst (λ (call : Option Call). Agrees (after_done call Released t) (free_seat old.sizes))
          (sym (told_call.0 ∙ ap Some told.0)) (record {
            guards = none;
            paused = refl;
            told = (refl, on ∙ sym (ap has_any none));
            here = λ word. absurd (word refl);
            away = λ free. record { registered = refl; call = refl; guards = none; paused = refl; pinned = on };
          }),
    )
      where
        none : t.guards ≡ []
        none = none_is t.guards (subst (λ (d : Call). BeganUnder d t.guards) told.0 under)

    tell_drive : (s : Stage) → At s → DrivesCall old p seat c s (ask_at s) reply new → Goal
    tell_drive Resting (told, on) did = absurd told
    tell_drive LoadPin at did = moves (StorePin old.epoch) at did
    tell_drive (StorePin e) (told, on) did =
        tells (PinnedReply p) (with_word seat (Pinned e) (hears m (StorePin e) Stored)) _ (
          (refl, in_call (λ call. MayPin call t.guards) told.0, told.1),
          goes_on (Pinned e) _ (after_go t (PinnedReply p)) (refl, refl, refl, refl) (λ free. cc)
              ((told.0, refl, told.2), refl),
        ) did.0 did.1 (λ q. refl)
    tell_drive ReloadPin at did = moves (after_pin m) (machine_pinned t c m drives under at) did
    tell_drive LoadScan at did = moves (Scan old.epoch 0) at did
    tell_drive (Scan e k) (told, on) did =
        moves _ (machine_scanned t c m drives under e k (word_number (position_word old k)) told on) did
    tell_drive (Advance e) at did = steps (with_stage m (Take (e + 1) 0)) _ at did.0 did.1 (λ q. refl)
    tell_drive (Take x k) at (step, jobs, queued, told_so, took, e) =
        tell_take x k step jobs _ at told_so e (λ q. refl)
    tell_drive (Calling x k) (told, on) (job, jobs, hand, told_so, e) =
        tells (CalledReply job.ticket (outcome_of old.heap job.removes))
        (with_machine seat (gives m (Calling x k) jobs)) _ (
          (in_call MayCall (may_call t c under told), on),
          goes_on seat.word _ t (refl, refl, refl, refl) taken (machine_called t c m drives under x k jobs told on),
        ) told_so e (λ q. refl)
    tell_drive LoadSeal at did = moves (Put old.epoch) at did
    tell_drive (Put seal) at (step, queued, told_so, puts, e) = tell_put seal step _ at told_so e (λ q. refl)
    tell_drive Keep (told, on) did =
        let job : Deferral = record { ticket = old.tickets; removes = removed_by seat.progress } in
        tells (Deferred old.tickets) (with_machine seat (hears m Keep (Job job))) _ (
          (in_call MayDefer told.0, told.1),
          goes_on seat.word _ (after_go t (Deferred old.tickets)) (refl, refl, refl, refl) taken
              (told_kept t c m.full old.tickets under told.0 told.2 on),
        ) did.0 did.1 (λ q. refl)
    tell_drive LoadRepin at did = moves _ (machine_reloaded t c m drives under old.epoch at) did
    tell_drive (StoreRepin e) (told, on) did =
        tells (Repinned p) (with_word seat (Pinned e) (hears m (StoreRepin e) Stored)) _ (
          (refl, in_call (λ call. MayRepin call t.guards) told.0, told.1),
          goes_on (Pinned e) _ (after_go t (Repinned p)) (refl, refl, refl, refl) (λ free. cc) (told.0, on),
        ) did.0 did.1 (λ q. refl)
    tell_drive ReloadRepin (told, on) did = moves End (told_repinned t c m.full under told on) did
    tell_drive StoreUnpinned (told, on) did =
        tells (UnpinnedReply p) (with_word seat Unpinned (hears m StoreUnpinned Stored)) _ (
          (refl, in_call (λ call. MayUnpin call t.guards t.did_pin) told.0, told.1),
          goes_on Unpinned _ (after_go t (UnpinnedReply p)) (refl, refl, refl, refl) (λ free. cc)
              (machine_unpinned t c m drives under p told.0),
        ) did.0 did.1 (λ q. refl)
    tell_drive StoreFree at did = tells (Done Released) (free_seat old.sizes) _ (freed at) did.0 did.1 (λ q. refl)
    tell_drive End at did = tells (end_reply c seat) (ended_seat c seat) _
        (end_agrees t seat p taken (h p) c told_call.0 under at) did.0 did.1 (λ q. refl)

  told_of : (progress : Progress) → seat.progress ≡ progress → ToldOf t m progress
  told_of progress e = subst (λ (now : Progress). ToldOf t m now) e (h p).told

  -- no call is under way
  tell_idle : seat.progress ≡ Idle → reply ≡ Refused IdleFault → new ≡ old → Goal
  tell_idle idle told_so e =
      let was : (t.call ≡ None) × PinnedByGuards t = told_of Idle idle in
      subst (λ (r : Reply). Shows new told p r) (sym told_so)
      (subst (λ (s : State). Shows s told p (Refused IdleFault)) (sym e) (
        subst (λ (call : Option Call). HasToldRefused call t) (sym was.0) tt,
        told_agrees old told (λ u. after_go u (Refused IdleFault)) p h (record {
          guards = (h p).guards;
          paused = (h p).paused;
          told = subst (λ (now : Progress). ToldOf (after_go t (Refused IdleFault)) m now) (sym idle) (refl, was.1);
          here = (h p).here;
          away = λ free. absurd (taken free);
        }),
      ))

  -- a job is called at once
  tell_calls_now : (removes : Option Name) (how : Called) → seat.progress ≡ CallsNow removes → reply ≡ CalledNow how
      → new ≡ record (with_seat old p (record seat { progress = Ends (Done UnitAnswer) }))
      { heap = heap_after_job old.heap removes } → Goal
  tell_calls_now removes how now told_so e = by_told (told_of (CallsNow removes) now)
    where
      called : Told
      called = after_go t (CalledNow how)

      by_told : ToldOf t m (CallsNow removes) → Goal
      by_told (may, not_yet, on) =
          let leaves = now_told t.call called may refl in
          tells (CalledNow how) (record seat { progress = Ends (Done UnitAnswer) }) _ (
            (may, not_yet),
            record {
              guards = (h p).guards;
              paused = (h p).paused;
              told = (leaves.0, leaves.1, leaves.2, on);
              here = (h p).here;
              away = λ free. absurd (taken free);
            },
          ) told_so e (λ q. refl)

  -- a call on cells and pointers goes on
  tell_access : (a : Access) (k : ℕ) (found : Ptr) (told : Accessed) → seat.progress ≡ Accesses a k found
      → IsTold t a told → Tells p t (access_reply told) (accessed_seat a k told seat)
  tell_access a k found told now may = by_told (told_of (Accesses a k found) now) told may
    where
      by_told : ToldOf t m (Accesses a k found) → (told : Accessed) → IsTold t a told
          → Tells p t (access_reply told) (accessed_seat a k told seat)
      by_told (call, names, on) (Again other) may = (
        tt,
        record {
          guards = (h p).guards;
          paused = (h p).paused;
          told = (call, names, on);
          here = (h p).here;
          away = λ free. absurd (taken free);
        },
      )
      by_told (call, names, on) (Answers answer) may = (
        tt,
        record {
          guards = (h p).guards;
          paused = (h p).paused;
          told = (
            subst (λ (under_way : Option Call). HasTold under_way t) (sym call) tt,
            subst (λ (under_way : Option Call). AnswerFits under_way answer) (sym call) (may names),
            λ other. ap (λ (under_way : Option Call). after_done under_way other t) call,
            on,
          );
          here = (h p).here;
          away = λ free. absurd (taken free);
        },
      )
      by_told (call, names, on) NoSlot may = (
        subst (λ (under_way : Option Call). HasToldRefused under_way t) (sym call) may,
        record {
          guards = (h p).guards;
          paused = (h p).paused;
          told = (refl, on);
          here = (h p).here;
          away = λ free. absurd (taken free);
        },
      )

  -- a call that the machine doesn't drive is done
  tell_ends : (last : Reply) → seat.progress ≡ Ends last → reply ≡ last
      → new ≡ with_seat old p (record seat { progress = Idle }) → Goal
  tell_ends last ends told_so e = by_told (told_of (Ends last) ends)
    where
      by_told : ToldOf t m (Ends last) → Goal
      by_told (told, fits, leaves, on) =
          let done : (answer : AccessAnswer)
          × (last ≡ Done answer) = (follows_at old.sizes seat linked (Ends last) ends).1 in
          tells (Done done.0) (record seat { progress = Idle }) _ (
            (told, subst (ReplyFits t.call) done.1 fits),
            subst (λ (u : Told). Agrees u (record seat { progress = Idle })) (sym (leaves done.0)) (record {
              guards = (h p).guards;
              paused = (h p).paused;
              told = (refl, on);
              here = (h p).here;
              away = λ free. absurd (taken free);
            }),
          ) (told_so ∙ done.1) e (λ q. refl)

  pub tell_go : (progress : Progress) → seat.progress ≡ progress → DoesGo old p seat progress reply new → Goal
  tell_go Idle at did = tell_idle at did.0 did.1
  tell_go (Driven c) at did = tell_drive c at m.stage (told_call c at).1 did
  tell_go (CallsNow removes) at did = tell_calls_now removes _ at did.0 did.1
  tell_go (Accesses a k found) at (did, touches, told_so, e) =
      tells (access_reply did.told) (accessed_seat a k did.told seat) _
      (tell_access a k found did.told at (told_by_touch t a k found old.heap did touches)) told_so e (λ q. refl)
  tell_go (Ends last) at did = tell_ends last at did.0 did.1
