-- The steps of a driven machine on bags keep what holds: a put, a take, and the call of a job.
use Rattle.std.proofs.Common.{◌≡◌, ◌≢◌, ℕ, true, false, List, [], ◌∷◌, ◌++◌, refl, sym, subst, arith}
use Rattle.epoch_bags.specs.declared.job.Called.{Called}
use Rattle.epoch_bags.specs.declared.queue.PutStep.{PutStep}
use Rattle.epoch_bags.specs.declared.queue.PutStep.TheVariants.{Again, Done as PutDone, Full}
use Rattle.epoch_bags.specs.declared.queue.TakeStep.{TakeStep}
use Rattle.epoch_bags.specs.declared.queue.TakeStep.TheVariants.{Again as TakeAgain, Empty, Got}
use Rattle.epoch_machine.specs.declared.machine.Stage.{Stage}
use Rattle.epoch_machine.specs.declared.machine.Stage.TheVariants.{Take, Calling, Put}
use Rattle.epoch_machine.specs.Machine.{Machine, put_heard, took_heard, gives, PutsHeld, TakesHand}
use Rattle.epoch_laws.specs.declared.step.Deferral.{Deferral}
use Rattle.epoch_laws.specs.declared.step.Reply.TheVariants.{Stepped, Called as CalledReply}
use Rattle.epoch_laws.specs.declared.step.Entry.{Entry}
use Rattle.epoch_laws.specs.declared.step.Word.TheVariants.{Free}
use Rattle.epoch_laws.specs.Run.{Bag, WorldSeat, State, seat_of, position_word, with_seat, with_machine}
use Rattle.epoch_laws.proofs.DeferralEpochs.{DeferredBy, SealedBehind, sealed_put, sealed_got}
use Rattle.epoch_laws.proofs.QuietReplies.{plain_called, quiet_stepped}
use Rattle.epoch_laws.proofs.SeatsFine.{View, IsFine, HandExpired, fine_next}
use Rattle.epoch_laws.proofs.WorldHolds.{Holds, view_of}
use Rattle.epoch_laws.proofs.NextStages.{next_collected, next_put, next_job}
use Rattle.epoch_laws.proofs.SeatSteps.{CallsEarlier, plain_step}

module _ (old new : State) (log : List Entry) (x : Entry) (h : Holds old log) (p : ℕ)
    (taken : position_word old p ≢ Free) where
  abbrev seat : WorldSeat
  seat = seat_of old p

  abbrev m : Machine Deferral
  m = seat.machine

  abbrev v : View
  v = view_of old h.since h.when

  abbrev IsFineAt : Stage → Type 0
  IsFineAt s = IsFine v p seat.word m s

  -- a step on the store, after which these are its bags and n is the machine
  stores : (n : Machine Deferral) (queued : List Bag) → IsFine v p seat.word n n.stage
      → SealedBehind h.when old.tickets old.epoch queued → x.reply ≡ Stepped
      → new ≡ record (with_seat old p (with_machine seat n)) { queued = queued } → Holds new (log ++ x ∷ [])
  stores n queued fine sealed told e = plain_step old new log x h p (with_machine seat n) queued taken refl
      (quiet_stepped x.reply told).plain (λ t how c. absurd (cc (told, c))) fine sealed e

  bags_stay : (queued : List Bag) → queued ≡ old.queued → SealedBehind h.when old.tickets old.epoch queued
  bags_stay queued same = subst (SealedBehind h.when old.tickets old.epoch) (sym same) h.queued

  pub puts : (s : ℕ) → IsFineAt (Put s) → (step : PutStep) (queued : List Bag) → PutsHeld s m old.queued step queued
      → x.reply ≡ Stepped → new ≡ record (with_seat old p (with_machine seat (put_heard m step))) { queued = queued }
      → Holds new (log ++ x ∷ [])
  puts s fine Again queued same told e = stores m queued (h.seats p) (bags_stay queued same) told e
  puts s fine PutDone queued put told e = let n = put_heard m PutDone in stores n queued
      (fine_next v p seat.word m n (Put s) n.stage fine (next_put v p n false fine.aims) tt)
      (sealed_put _ _ _ old.queued queued _ put h.queued fine.knows.0 fine.knows.1) told e
  puts s fine Full queued same told e = let n = put_heard m Full in stores n queued
      (fine_next v p seat.word m n (Put s) n.stage fine (next_put v p n true fine.aims) fine.held)
      (bags_stay queued same) told e

  pub takes : (y k : ℕ) → IsFineAt (Take y k) → (step : TakeStep) (jobs : List Deferral) (queued : List Bag)
      → TakesHand y old.queued step queued jobs → x.reply ≡ Stepped
      → new ≡ record (with_seat old p (with_machine seat (took_heard m (Take y k) step jobs))) { queued = queued }
      → Holds new (log ++ x ∷ [])
  takes y k fine TakeAgain jobs queued same told e = stores m queued (h.seats p) (bags_stay queued same) told e
  takes y k fine Empty jobs queued same told e = let n = took_heard m (Take y k) Empty jobs in stores n queued
      (fine_next v p seat.word m n (Take y k) n.stage fine (next_collected v p n m.held fine.aims) fine.held)
      (bags_stay queued same) told e
  takes y k fine Got jobs queued (bag, all, expired, out) told e =
      let n = took_heard m (Take y k) Got jobs in
      let parts = sealed_got h.when old.tickets old.epoch old.queued queued bag out h.queued in
      let hand : HandExpired v jobs = record {
        bound = bag.seal;
        expired = omega (arith, expired, fine.knows);
        jobs = subst (DeferredBy h.when old.tickets bag.seal) all parts.jobs;
      } in
      stores n queued
      (fine_next v p seat.word m n (Take y k) n.stage fine
      (next_job v p m n y k jobs refl fine.aims fine.knows hand) fine.held)
      parts.sealed told e

  -- the first job in hand is called
  pub calls : (y k : ℕ) → IsFineAt (Calling y k) → (job : Deferral) (jobs : List Deferral) (how : Called)
      → m.hand ≡ job ∷ jobs → x.reply ≡ CalledReply job.ticket how
      → new ≡ with_seat old p (with_machine seat (gives m (Calling y k) jobs)) → Holds new (log ++ x ∷ [])
  calls y k fine job jobs how hand told e =
      plain_step old new log x h p (with_machine seat n) old.queued taken refl
      (plain_called x.reply job.ticket how told)
      (λ t other c. let same : job.ticket ≡ t = cc (told, c) in subst (CallsEarlier old h.since h.when) same earlier)
      (fine_next v p seat.word m n (Calling y k) n.stage fine
      (next_job v p m n y k jobs refl fine.aims fine.knows.0 left) fine.held)
      h.queued e
    where
      n : Machine Deferral
      n = gives m (Calling y k) jobs

      expired : HandExpired v m.hand
      expired = fine.knows.1

      all : DeferredBy h.when old.tickets expired.bound (job ∷ jobs)
      all = subst (DeferredBy h.when old.tickets expired.bound) hand expired.jobs

      earlier : CallsEarlier old h.since h.when job.ticket
      earlier = (all.0, λ q pinned. omega (arith, all.1, expired.expired, (h.seats q).recent pinned))

      left : HandExpired v jobs
      left = record { bound = expired.bound; expired = expired.expired; jobs = all.2 }
