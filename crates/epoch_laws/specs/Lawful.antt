-- What is said of steps and replies alone: in which calls each event may stand, and how often; where calls begin and
-- which answer they are done with.
use Rattle.std.specs.Prelude.{◌≡◌, ℕ, ◌<◌, Bool, true, false, List, [], ◌∷◌, ◌++◌, length, Option, Some, None, ◌==◌}
use Rattle.std.specs.Prelude.{if◌then◌else◌}
use Rattle.epoch_bags.specs.declared.job.Called.{Called}
use Rattle.epoch_laws.specs.declared.step.Call.{Call}
use Rattle.epoch_laws.specs.declared.step.Call.TheVariants.{Pin, Unpin, Pause, Resume, Repin, Defer, Flush, Release}
use Rattle.epoch_laws.specs.declared.step.Call.TheVariants.{DeferDestroy, Access as AccessCall}
use Rattle.epoch_laws.specs.declared.step.Step.{Step}
use Rattle.epoch_laws.specs.declared.step.Step.TheVariants.{Register, Begin, Go, End, EndGo}
use Rattle.epoch_laws.specs.declared.heap.access.Access.{Access}
use Rattle.epoch_laws.specs.declared.heap.access.Access.TheVariants.{Place, Read, Leave, Write, Take, Point}
use Rattle.epoch_laws.specs.declared.heap.access.Change.{Change}
use Rattle.epoch_laws.specs.declared.heap.access.Change.TheVariants.{Load, Store, Swap, CompareExchange, FetchAnd}
use Rattle.epoch_laws.specs.declared.heap.access.Change.TheVariants.{FetchOr}
use Rattle.epoch_laws.specs.declared.heap.access.Change.TheVariants.{FetchXor, FetchUpdate}
use Rattle.epoch_laws.specs.declared.heap.access.AccessAnswer.{AccessAnswer}
use Rattle.epoch_laws.specs.declared.heap.access.AccessAnswer.TheVariants.{Guard, Unit as UnitAnswer, Released, Count}
use Rattle.epoch_laws.specs.declared.heap.access.AccessAnswer.TheVariants.{Name as NameAnswer, Value, Absent, Pointer}
use Rattle.epoch_laws.specs.declared.heap.access.AccessAnswer.TheVariants.{Exchanged}
use Rattle.epoch_laws.specs.declared.heap.access.AccessAnswer.TheVariants.{Unchanged, Updated, Stopped, RanOut}
use Rattle.epoch_laws.specs.declared.step.Reply.{Reply}
use Rattle.epoch_laws.specs.declared.step.Reply.TheVariants.{Registered, Began, Stepped, Pinned, Unpinned, Repinned}
use Rattle.epoch_laws.specs.declared.step.Reply.TheVariants.{Deferred, Called as CalledReply, CalledNow, Done, Refused}
use Rattle.epoch_laws.specs.declared.step.Entry.{Entry}
use Rattle.epoch_laws.specs.Heap.{guard_of}
use Rattle.epoch_laws.specs.Run.{is_out, waits, without}
use Rattle.epoch_laws.specs.Grace.{IsReplyAt}

-- WHAT A LOG TELLS OF ONE PARTICIPANT

pub record Told : Type 0 where
  pub registered : Bool  -- the position is taken
  pub call : Option Call  -- the call under way, if there is one
  pub guards : List ℕ  -- the guards counted
  pub paused : Option ℕ  -- the guard that is paused, if there is one
  pub pinned : Bool
  -- which events the call under way has told
  pub did_pin : Bool
  pub did_unpin : Bool
  pub did_repin : Bool
  pub did_defer : Bool
  pub did_call_now : Bool

abbrev pub nothing : Told
nothing = record {
  registered = false;
  call = None;
  guards = [];
  paused = None;
  pinned = false;
  did_pin = false;
  did_unpin = false;
  did_repin = false;
  did_defer = false;
  did_call_now = false;
}

-- a guard is counted from the end of Pin or Resume, up to the end of Unpin or Pause
abbrev pub counted_after : Option Call → AccessAnswer → List ℕ → List ℕ
counted_after (Some Pin) (Guard g) guards = guards ++ g ∷ []
counted_after (Some (Resume (Some g))) answer guards = guards ++ g ∷ []
counted_after (Some (Unpin (Some g))) answer guards = without g guards
counted_after (Some (Pause (Some g))) answer guards = without g guards
counted_after _ answer guards = guards

-- a guard is paused from the end of Pause, up to the end of Resume; whoever has released its position has none
abbrev pub paused_after : Option Call → Option ℕ → Option ℕ
paused_after (Some (Pause (Some g))) paused = Some g
paused_after (Some (Resume (Some g))) paused = None
paused_after (Some Release) paused = None
paused_after _ paused = paused

-- a position is taken up to the end of Release
abbrev pub registered_after : Option Call → Bool → Bool
registered_after (Some Release) registered = false
registered_after _ registered = registered

abbrev pub after_register : ℕ → Told → Reply → Told
after_register p t (Registered q) = if q == p then record t { registered = true } else t
after_register p t _ = t

-- a call whose Begin was refused is no call
abbrev pub after_begin : Told → Call → Reply → Told
after_begin t c Began = record t {
  call = Some c;
  did_pin = false;
  did_unpin = false;
  did_repin = false;
  did_defer = false;
  did_call_now = false;
}
after_begin t c _ = t

abbrev pub after_refused : Told → Told
after_refused t = record t { call = None }

abbrev pub after_done : Option Call → AccessAnswer → Told → Told
after_done call answer t = record t {
  registered = registered_after call t.registered;
  call = None;
  guards = counted_after call answer t.guards;
  paused = paused_after call t.paused;
}

abbrev pub after_go : Told → Reply → Told
after_go t (Pinned p) = record t { pinned = true; did_pin = true }
after_go t (Unpinned p) = record t { pinned = false; did_unpin = true }
after_go t (Repinned p) = record t { did_repin = true }
after_go t (Deferred ticket) = record t { did_defer = true }
after_go t (CalledNow how) = record t { did_call_now = true }
after_go t (Done answer) = after_done t.call answer t
after_go t (Refused fault) = after_refused t
after_go t _ = t

-- what is told of p after one more step and its reply
abbrev pub told_after : ℕ → Told → Step → Reply → Told
told_after p t Register reply = after_register p t reply
told_after p t (Begin q c) reply = if q == p then after_begin t c reply else t
told_after p t (Go q) reply = if q == p then after_go t reply else t
told_after p t _ reply = t

-- what is told of p after a whole log
abbrev pub told_from : ℕ → Told → List Entry → Told
told_from p t [] = t
told_from p t (entry ∷ log) = told_from p (told_after p t entry.step entry.reply) log

abbrev pub told_of : ℕ → List Entry → Told
told_of p log = told_from p nothing log

-- IN WHICH CALLS AN EVENT MAY STAND, BY THE GUARDS COUNTED

-- the first guard is pinned, or the position is given up
abbrev pub MayPin : Option Call → List ℕ → Type 0
MayPin (Some Pin) guards = guards ≡ []
MayPin (Some (Resume (Some g))) guards = guards ≡ []
MayPin (Some Release) guards = Unit {0}
MayPin _ guards = ⊥

-- the guard given up is the only one counted, or the position is given up, after the pin of the same call
abbrev pub MayUnpin : Option Call → List ℕ → Bool → Type 0
MayUnpin (Some (Unpin (Some g))) guards did_pin = guards ≡ g ∷ []
MayUnpin (Some (Pause (Some g))) guards did_pin = guards ≡ g ∷ []
MayUnpin (Some Release) guards did_pin = did_pin ≡ true
MayUnpin _ guards did_pin = ⊥

abbrev pub MayRepin : Option Call → List ℕ → Type 0
MayRepin (Some (Repin (Some g))) guards = length guards ≡ 1
MayRepin _ guards = ⊥

abbrev pub MayDefer : Option Call → Type 0
MayDefer (Some (Defer (Some g))) = Unit {0}
MayDefer (Some (DeferDestroy (Some g) ptr)) = Unit {0}
MayDefer _ = ⊥

abbrev pub MayCall : Option Call → Type 0
MayCall (Some Pin) = Unit {0}
MayCall (Some (Resume (Some g))) = Unit {0}
MayCall (Some (Flush (Some g))) = Unit {0}
MayCall (Some Release) = Unit {0}
MayCall _ = ⊥

-- a job called at once, under an unprotected guard, is no event
abbrev pub MayCallNow : Option Call → Type 0
MayCallNow (Some (Defer None)) = Unit {0}
MayCallNow (Some (DeferDestroy None ptr)) = Unit {0}
MayCallNow _ = ⊥

-- WHAT A CALL HAS TOLD BY ITS END

-- a call that is done
abbrev pub HasTold : Option Call → Told → Type 0
HasTold (Some Pin) t = t.guards ≡ [] → t.did_pin ≡ true
HasTold (Some (Resume (Some g))) t = t.guards ≡ [] → t.did_pin ≡ true
HasTold (Some (Unpin (Some g))) t = t.guards ≡ g ∷ [] → t.did_unpin ≡ true
HasTold (Some (Pause (Some g))) t = t.guards ≡ g ∷ [] → t.did_unpin ≡ true
HasTold (Some (Defer (Some g))) t = t.did_defer ≡ true
HasTold (Some (Defer None)) t = t.did_call_now ≡ true
HasTold (Some (DeferDestroy (Some g) ptr)) t = t.did_defer ≡ true
HasTold (Some (DeferDestroy None ptr)) t = t.did_call_now ≡ true
HasTold (Some Release) t = (t.did_pin ≡ true) × (t.did_unpin ≡ true)
HasTold (Some _) t = Unit {0}
HasTold None t = ⊥

-- a value, or that there is no such cell or that it is held otherwise
abbrev pub IsValue : AccessAnswer → Type 0
IsValue (Value v) = Unit {0}
IsValue Absent = Unit {0}
IsValue _ = ⊥

-- a pointer, or that the cell of its field is gone
abbrev pub IsPointer : AccessAnswer → Type 0
IsPointer (Pointer ptr) = Unit {0}
IsPointer Absent = Unit {0}
IsPointer _ = ⊥

-- nothing, or that the cell is gone or held otherwise
abbrev pub IsWritten : AccessAnswer → Type 0
IsWritten UnitAnswer = Unit {0}
IsWritten Absent = Unit {0}
IsWritten _ = ⊥

abbrev pub IsExchange : AccessAnswer → Type 0
IsExchange (Exchanged ptr) = Unit {0}
IsExchange (Unchanged ptr) = Unit {0}
IsExchange Absent = Unit {0}
IsExchange _ = ⊥

abbrev pub IsUpdate : AccessAnswer → Type 0
IsUpdate (Updated ptr) = Unit {0}
IsUpdate (Stopped ptr) = Unit {0}
IsUpdate (RanOut ptr) = Unit {0}
IsUpdate Absent = Unit {0}
IsUpdate _ = ⊥

abbrev pub ChangeAnswers : Change → AccessAnswer → Type 0
ChangeAnswers Load answer = IsPointer answer
ChangeAnswers (Store other) answer = IsWritten answer
ChangeAnswers (Swap other) answer = IsPointer answer
ChangeAnswers (CompareExchange current other) answer = IsExchange answer
ChangeAnswers (FetchAnd n) answer = IsPointer answer
ChangeAnswers (FetchOr n) answer = IsPointer answer
ChangeAnswers (FetchXor n) answer = IsPointer answer
ChangeAnswers (FetchUpdate tries by) answer = IsUpdate answer

-- a call on cells and pointers is done with its own kind of answer
abbrev pub AccessAnswers : Access → AccessAnswer → Type 0
AccessAnswers (Place v) (NameAnswer n) = Unit {0}
AccessAnswers (Place v) answer = ⊥
AccessAnswers (Read g ptr) answer = IsValue answer
AccessAnswers (Leave ptr) UnitAnswer = Unit {0}
AccessAnswers (Leave ptr) answer = ⊥
AccessAnswers (Write g ptr v) answer = IsWritten answer
AccessAnswers (Take g ptr) answer = IsValue answer
AccessAnswers (Point g spot change) answer = ChangeAnswers change answer

-- a pin that is done answers its guard, a release that the position is free, and any other call nothing, but for those
-- on cells and pointers
abbrev pub AnswerFits : Option Call → AccessAnswer → Type 0
AnswerFits (Some Pin) (Guard g) = Unit {0}
AnswerFits (Some Pin) answer = ⊥
AnswerFits (Some Release) Released = Unit {0}
AnswerFits (Some Release) answer = ⊥
AnswerFits (Some (AccessCall a)) answer = AccessAnswers a answer
AnswerFits (Some c) UnitAnswer = Unit {0}
AnswerFits _ answer = ⊥

-- a call that is refused at its end has deferred nothing, or finds no free cell for a value; where no call is under
-- way, the Go itself is refused
abbrev pub HasToldRefused : Option Call → Told → Type 0
HasToldRefused (Some (Defer (Some g))) t = t.did_defer ≡ false
HasToldRefused (Some (DeferDestroy (Some g) ptr)) t = t.did_defer ≡ false
HasToldRefused (Some (Flush (Some g))) t = Unit {0}
HasToldRefused (Some Release) t = (t.did_pin ≡ true) × (t.did_unpin ≡ true)
HasToldRefused (Some (AccessCall (Place v))) t = Unit {0}
HasToldRefused (Some _) t = ⊥
HasToldRefused None t = Unit {0}

-- WHICH REPLY A STEP MAY HAVE

-- a Go of p, by what was told of p before it; no call tells an event twice
abbrev pub MayTell : ℕ → Told → Reply → Type 0
MayTell p t Stepped = Unit {0}
MayTell p t (Pinned q) = (q ≡ p) × MayPin t.call t.guards × (t.did_pin ≡ false)
MayTell p t (Unpinned q) = (q ≡ p) × MayUnpin t.call t.guards t.did_pin × (t.did_unpin ≡ false)
MayTell p t (Repinned q) = (q ≡ p) × MayRepin t.call t.guards × (t.did_repin ≡ false)
MayTell p t (Deferred ticket) = MayDefer t.call × (t.did_defer ≡ false)
MayTell p t (CalledReply ticket how) = MayCall t.call × (t.pinned ≡ true)
MayTell p t (CalledNow how) = MayCallNow t.call × (t.did_call_now ≡ false)
MayTell p t (Done answer) = HasTold t.call t × AnswerFits t.call answer
MayTell p t (Refused fault) = HasToldRefused t.call t
MayTell p t _ = ⊥

-- a position that is taken isn't taken again
abbrev pub MayRegister : (ℕ → Told) → Reply → Type 0
MayRegister told (Registered p) = (told p).registered ≡ false
MayRegister told (Refused fault) = Unit {0}
MayRegister told _ = ⊥

-- an unprotected guard is never counted
abbrev pub GuardAllows : Option ℕ → List ℕ → Type 0
GuardAllows (Some g) guards = is_out g guards ≡ true
GuardAllows None guards = Unit {0}

-- a pin finds room for its guard, the guard of any other call is counted, that of a resume is the paused one, and a
-- release leaves none counted
abbrev pub GuardsAllow : Call → List ℕ → Option ℕ → Type 0
GuardsAllow Pin guards paused = length guards < 64
GuardsAllow (Unpin None) guards paused = ⊥
GuardsAllow (Unpin (Some g)) guards paused = is_out g guards ≡ true
GuardsAllow (Repin (Some g)) guards paused = is_out g guards ≡ true
GuardsAllow (Pause (Some g)) guards paused = is_out g guards ≡ true
GuardsAllow (Resume (Some g)) guards paused = paused ≡ Some g
GuardsAllow (Defer (Some g)) guards paused = is_out g guards ≡ true
GuardsAllow (Flush (Some g)) guards paused = is_out g guards ≡ true
GuardsAllow Release guards paused = guards ≡ []
GuardsAllow (DeferDestroy (Some g) ptr) guards paused = is_out g guards ≡ true
GuardsAllow (AccessCall a) guards paused = GuardAllows (guard_of a) guards
GuardsAllow _ guards paused = Unit {0}

-- A call is accepted only of a participant that is registered, and has no call under way; who is paused only resumes.
pub record MayAccept (t : Told) (c : Call) : Type 0 where
  pub registered : t.registered ≡ true
  pub idle : t.call ≡ None
  pub awake : waits c t.paused ≡ false
  pub guards : GuardsAllow c t.guards t.paused

abbrev pub MayBegin : Told → Call → Reply → Type 0
MayBegin t c Began = MayAccept t c
MayBegin t c (Refused fault) = Unit {0}
MayBegin t c _ = ⊥

abbrev pub MayEnd : Reply → Type 0
MayEnd Began = Unit {0}
MayEnd (Refused fault) = Unit {0}
MayEnd _ = ⊥

abbrev pub MayEndGo : Reply → Type 0
MayEndGo Stepped = Unit {0}
MayEndGo (CalledReply ticket how) = Unit {0}
MayEndGo (Done (Count n)) = Unit {0}
MayEndGo (Refused fault) = Unit {0}
MayEndGo _ = ⊥

abbrev pub MayReply : (ℕ → Told) → Step → Reply → Type 0
MayReply told Register reply = MayRegister told reply
MayReply told (Begin p c) reply = MayBegin (told p) c reply
MayReply told (Go p) reply = MayTell p (told p) reply
MayReply told End reply = MayEnd reply
MayReply told EndGo reply = MayEndGo reply

-- WHOLE LOGS

abbrev pub MayReplyAll : (ℕ → Told) → List Entry → Type 0
MayReplyAll told [] = Unit {0}
MayReplyAll told (entry ∷ log) =
    MayReply told entry.step entry.reply × MayReplyAll (λ p. told_after p (told p) entry.step entry.reply) log

-- no ticket is called twice
abbrev pub CallsNoneTwice : List Entry → Type 0
CallsNoneTwice log = (t i j : ℕ) (how again : Called) → IsReplyAt log i (CalledReply t how)
    → IsReplyAt log j (CalledReply t again) → i ≡ j

-- t was called before place j
abbrev pub IsCalledBefore : List Entry → ℕ → ℕ → Type 0
IsCalledBefore log t j = (i : ℕ) × (how : Called) × (i < j) × IsReplyAt log i (CalledReply t how)

-- t was deferred before place j
abbrev pub IsDeferredBefore : List Entry → ℕ → ℕ → Type 0
IsDeferredBefore log t j = (i : ℕ) × (i < j) × IsReplyAt log i (Deferred t)

-- no ticket is called that wasn't deferred before
abbrev pub CallsAfterDeferrals : List Entry → Type 0
CallsAfterDeferrals log = (t j : ℕ) (how : Called) → IsReplyAt log j (CalledReply t how) → IsDeferredBefore log t j
