-- The steps of a driven machine that move no bag keep what holds: its stage changes, it advances the epoch, or it
-- keeps a job.
use Rattle.std.proofs.Common.{◌≡◌, ◌≢◌, ℕ, ◌+◌, ◌<◌, ◌≤◌, not, List, [], ◌∷◌, ◌++◌, inl, inr, refl, ap, sym, subst}
use Rattle.std.proofs.Common.{arith, le_of_eq, le_refl}
use Rattle.epoch_machine.specs.declared.machine.Stage.{Stage}
use Rattle.epoch_machine.specs.declared.machine.Stage.TheVariants.{Advance, Take, Keep, End}
use Rattle.epoch_machine.specs.declared.machine.Answer.TheVariants.{Job}
use Rattle.epoch_machine.specs.Machine.{Machine, with_stage, hears}
use Rattle.epoch_laws.specs.declared.step.Deferral.{Deferral}
use Rattle.epoch_laws.specs.declared.step.Reply.TheVariants.{Stepped, Deferred}
use Rattle.epoch_laws.specs.declared.step.Entry.{Entry}
use Rattle.epoch_laws.specs.declared.step.Word.TheVariants.{Free}
use Rattle.epoch_laws.specs.Run.{WorldSeat, State, seat_of, position_word, with_seat, with_machine, removed_by}
use Rattle.epoch_laws.proofs.SeatLemmas.{seat_there}
use Rattle.epoch_laws.proofs.DeferralEpochs.{deferred_push, sealed_more}
use Rattle.epoch_laws.proofs.QuietReplies.{IsQuiet, quiet_stepped}
use Rattle.epoch_laws.proofs.SeatsFine.{View, IsFine, IsNext, publishes_at, fine_next, fine_more}
use Rattle.epoch_laws.proofs.WorldHolds.{Holds, holds_along, view_of, acted, changed, changed_same, changed_other}
use Rattle.epoch_laws.proofs.SeatSteps.{quiet_step}

module _ (old new : State) (log : List Entry) (x : Entry) (h : Holds old log) (p : ℕ)
    (taken : position_word old p ≢ Free) where
  abbrev seat : WorldSeat
  seat = seat_of old p

  abbrev m : Machine Deferral
  m = seat.machine

  abbrev v : View
  v = view_of old h.since h.when

  abbrev IsFineAt : Stage → Type 0
  IsFineAt s = IsFine v p seat.word m s

  -- under the same word, where no job moves
  pub moves : (s t : Stage) → IsFineAt s → IsNext v p (publishes_at m s) m t → x.reply ≡ Stepped
      → new ≡ with_seat old p (with_machine seat (with_stage m t)) → Holds new (log ++ x ∷ [])
  moves s t fine next told e = quiet_step old new log x h p (with_machine seat (with_stage m t)) taken refl
      (quiet_stepped x.reply told)
      (fine_next v p seat.word m (with_stage m t) s t fine
      (record { publishes = next.publishes; aims = next.aims; knows = next.knows }) fine.held)
      e

  -- p stores the epoch after the one that it scanned
  pub advances : (e : ℕ) → IsFineAt (Advance e) → IsQuiet x.reply
      → new ≡ record (with_seat old p (with_machine seat (with_stage m (Take (e + 1) 0)))) { epoch = e + 1 }
      → Holds new (log ++ x ∷ [])
  advances e fine quiet did = holds_along new _ _ did
      (acted old _ log x h h.since h.when p (with_machine seat (with_stage m (Take (e + 1) 0))) (record {
        there = seat_there old p taken;
        still_open = λ shut. taken (h.closed shut p);
        sizes = refl;
        seats = refl;
        ending = refl;
        epoch = up;
        tickets = omega arith;
        when_old = λ t lt. refl;
        since_other = λ q ne. refl;
        near = λ q ne pinned. omega (arith, fine.knows.others q tt pinned);
        own = λ pinned. inl (pinned, refl);
        fine = λ passes. let later = fine_more _ _ p seat.word m (Advance e) passes refl
            (λ pinned. omega (arith, fine.knows.others p tt pinned)) fine in
            fine_next _ p seat.word m (with_stage m (Take (e + 1) 0)) (Advance e) (Take (e + 1) 0) later
            (record { publishes = refl; aims = fine.aims; knows = le_refl _ }) later.held;
        queued = sealed_more _ _ _ _ _ _ old.queued (le_refl _) up (λ t lt. refl) h.queued;
        published = λ q t. absurd (quiet.plain.published q t);
        lasting = λ pinned on. (pinned, refl);
        deferred = λ t told. absurd (quiet.plain.deferred t told);
        called = λ t how told. absurd (quiet.called t how told);
      }))
    where
      up : old.epoch ≤ e + 1
      up = omega (arith, fine.recent fine.agrees, fine.knows.own)

  -- the job of the ticket that is given now
  abbrev job : Deferral
  job = record { ticket = old.tickets; removes = removed_by seat.progress }

  -- p keeps it
  pub keeps : IsFineAt Keep → x.reply ≡ Deferred old.tickets
      → new ≡ record (with_seat old p (with_machine seat (hears m Keep (Job job)))) { tickets = old.tickets + 1 }
      → Holds new (log ++ x ∷ [])
  keeps fine told did = holds_along new _ _ did
      (acted old _ log x h h.since (changed h.when old.tickets old.epoch) p (with_machine seat kept) (record {
        there = seat_there old p taken;
        still_open = λ shut. taken (h.closed shut p);
        sizes = refl;
        seats = refl;
        ending = refl;
        epoch = omega arith;
        tickets = omega arith;
        when_old = older;
        since_other = λ q ne. refl;
        near = λ q ne pinned. (h.seats q).recent pinned;
        own = λ pinned. inl (pinned, refl);
        fine = λ passes. let later = fine_more _ _ p seat.word m Keep passes refl fine.recent fine in
            fine_next _ p seat.word m kept Keep End later
            (record { publishes = ap not fine.aims; aims = tt; knows = tt })
            (deferred_push _ _ _ m.held job later.held (omega arith) (le_of_eq now));
        queued = sealed_more _ _ _ _ _ _ old.queued (omega arith) (le_refl _) older h.queued;
        published = λ q t. elim t [ inl e ↦ absurd (cc (told, e)) | inr e ↦ absurd (cc (told, e)) ];
        lasting = λ pinned on. (pinned, refl);
        deferred = λ t e. let same : t ≡ old.tickets = cc in (same, omega (arith, same), λ q. at_deferral t q same);
        called = λ t how e. absurd (cc (told, e));
      }))
    where
      kept : Machine Deferral
      kept = hears m Keep (Job job)

      now : changed h.when old.tickets old.epoch old.tickets ≡ old.epoch
      now = changed_same h.when old.tickets old.epoch

      older : (t : ℕ) → t < old.tickets → changed h.when old.tickets old.epoch t ≡ h.when t
      older t lt = changed_other h.when old.tickets old.epoch t (omega arith)

      at_deferral : (t q : ℕ) → t ≡ old.tickets → h.since q ≤ changed h.when old.tickets old.epoch t
      at_deferral t q same =
          let at : changed h.when old.tickets old.epoch t ≡ old.epoch =
          subst (λ (u : ℕ). changed h.when old.tickets old.epoch u ≡ old.epoch) (sym same) now in
          omega (arith, at, (h.seats q).before)
