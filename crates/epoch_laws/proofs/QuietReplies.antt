-- Replies that tell nothing of pins and deferrals.
use Rattle.std.proofs.Common.{◌≡◌, ◌≢◌, ℕ, Bool, true, false, inl, inr}
use Rattle.epoch_bags.specs.declared.job.Called.{Called}
use Rattle.epoch_cells.specs.declared.fault.Fault.{Fault}
use Rattle.epoch_laws.specs.declared.heap.access.AccessAnswer.{AccessAnswer}
use Rattle.epoch_laws.specs.declared.step.Call.{Call}
use Rattle.epoch_laws.specs.declared.step.Call.TheVariants.{Pin, Unpin, Repin, Pause, Resume, Defer, Flush, Release}
use Rattle.epoch_laws.specs.declared.step.Call.TheVariants.{DeferDestroy, Access as AccessCall}
use Rattle.epoch_laws.specs.declared.step.Reply.{Reply}
use Rattle.epoch_laws.specs.declared.step.Reply.TheVariants.{Began, Stepped, Pinned, Unpinned, Repinned, Deferred}
use Rattle.epoch_laws.specs.declared.step.Reply.TheVariants.{Called as CalledReply, CalledNow, Done, Refused}
use Rattle.epoch_laws.specs.Run.{WorldSeat, full_or_done, end_reply, access_reply}
use Rattle.epoch_laws.proofs.Log.{IsPublish, IsWithdrawal}
use Rattle.epoch_laws.specs.declared.heap.access.Accessed.{Accessed}
use Rattle.epoch_laws.specs.declared.heap.access.Accessed.TheVariants.{Again, Answers, NoSlot}

-- nothing is told but perhaps a call
pub record IsPlain (r : Reply) : Type 0 where
  pub published : (q : ℕ) → ¬ (IsPublish r q)
  pub withdrawn : (q : ℕ) → ¬ (IsWithdrawal r q)
  pub deferred : (t : ℕ) → r ≢ Deferred t

-- nor is it told that a deferred job was called
pub record IsQuiet (r : Reply) : Type 0 where
  pub plain : IsPlain r
  pub called : (t : ℕ) (how : Called) → r ≢ CalledReply t how

-- a reply is plain if it tells of no pin, no repin, no unpin and no deferral
pub plain_by : (r : Reply) → ((q : ℕ) → r ≢ Pinned q) → ((q : ℕ) → r ≢ Repinned q) → ((q : ℕ) → r ≢ Unpinned q)
    → ((t : ℕ) → r ≢ Deferred t) → IsPlain r
plain_by r pinned repinned unpinned deferred = record {
  published = λ q h. elim h [ inl e ↦ pinned q e | inr e ↦ repinned q e ];
  withdrawn = λ q h. elim h [ inl e ↦ unpinned q e | inr e ↦ repinned q e ];
  deferred = deferred;
}

-- the reply that a deferred job was called is plain
pub plain_called : (r : Reply) (t : ℕ) (how : Called) → r ≡ CalledReply t how → IsPlain r
plain_called r t how e = plain_by r (λ q h. cc) (λ q h. cc) (λ q h. cc) (λ u h. cc)

-- the reply that a step was made is quiet
pub quiet_stepped : (r : Reply) → r ≡ Stepped → IsQuiet r
quiet_stepped r e = record {
  plain = plain_by r (λ q h. cc) (λ q h. cc) (λ q h. cc) (λ t h. cc);
  called = λ t how h. cc;
}

-- the reply that a call began is quiet
pub quiet_began : (r : Reply) → r ≡ Began → IsQuiet r
quiet_began r e = record {
  plain = plain_by r (λ q h. cc) (λ q h. cc) (λ q h. cc) (λ t h. cc);
  called = λ t how h. cc;
}

-- the reply that a job was called at once is quiet
pub quiet_now : (r : Reply) (how : Called) → r ≡ CalledNow how → IsQuiet r
quiet_now r how e = record {
  plain = plain_by r (λ q h. cc) (λ q h. cc) (λ q h. cc) (λ t h. cc);
  called = λ t how h. cc;
}

-- the answer at the end of a call is quiet
pub quiet_done : (r : Reply) (a : AccessAnswer) → r ≡ Done a → IsQuiet r
quiet_done r a e = record {
  plain = plain_by r (λ q h. cc) (λ q h. cc) (λ q h. cc) (λ t h. cc);
  called = λ t how h. cc;
}

-- a refusal is quiet
pub quiet_refused : (r : Reply) (f : Fault) → r ≡ Refused f → IsQuiet r
quiet_refused r f e = record {
  plain = plain_by r (λ q h. cc) (λ q h. cc) (λ q h. cc) (λ t h. cc);
  called = λ t how h. cc;
}

-- a step of a call on cells and pointers
pub quiet_access : (r : Reply) (told : Accessed) → r ≡ access_reply told → IsQuiet r
quiet_access r (Again found) e = quiet_stepped r e
quiet_access r (Answers answer) e = quiet_stepped r e
quiet_access r NoSlot e = quiet_refused r _ e

quiet_full : (r : Reply) (full : Bool) → r ≡ full_or_done full → IsQuiet r
quiet_full r true e = quiet_refused r _ e
quiet_full r false e = quiet_done r _ e

-- the end of a call
pub quiet_end : (r : Reply) (c : Call) (seat : WorldSeat) → r ≡ end_reply c seat → IsQuiet r
quiet_end r Pin seat e = quiet_done r _ e
quiet_end r (Unpin g) seat e = quiet_done r _ e
quiet_end r (Repin g) seat e = quiet_done r _ e
quiet_end r (Pause g) seat e = quiet_done r _ e
quiet_end r (Resume g) seat e = quiet_done r _ e
quiet_end r (Defer g) seat e = quiet_full r seat.machine.full e
quiet_end r (Flush g) seat e = quiet_full r seat.machine.full e
quiet_end r Release seat e = quiet_full r seat.machine.full e
quiet_end r (DeferDestroy g ptr) seat e = quiet_full r seat.machine.full e
quiet_end r (AccessCall a) seat e = quiet_done r _ e
