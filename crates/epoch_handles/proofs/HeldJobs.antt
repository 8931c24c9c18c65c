-- The held jobs after a reply: none is lost, and where a position is freed none is left.
use Rattle.std.proofs.Common.{◌≡◌, ℕ, ◌+◌, ◌-◌, ◌^◌, ◌==◌, if◌then◌else◌, Bool, true, false, List, [], ◌∷◌}
use Rattle.std.proofs.Common.{length, Some, refl, sym, ap, subst, arith}
use Rattle.std.proofs.lemmas.List.Sums.{sum_by_push}
use Rattle.std.specs.Prelude.{sum_by}
use Rattle.epoch_bags.specs.declared.queue.PutStep.{PutStep}
use Rattle.epoch_bags.specs.declared.queue.PutStep.TheVariants.{Again as PutAgain, Done, Full}
use Rattle.epoch_bags.specs.declared.queue.TakeStep.{TakeStep}
use Rattle.epoch_bags.specs.declared.queue.TakeStep.TheVariants.{Again as TakeAgain, Empty as TakeEnds, Got}
use Rattle.epoch_machine.specs.declared.machine.Action.{Action}
use Rattle.epoch_machine.specs.declared.machine.Action.TheVariants.{Pin, Unpin, Repin, Defer, Flush, Release}
use Rattle.epoch_machine.specs.declared.machine.Answer.{Answer}
use Rattle.epoch_machine.specs.declared.machine.Answer.TheVariants.{Epoch, Word, Stored, Job}
use Rattle.epoch_machine.specs.declared.machine.Ask.{Ask}
use Rattle.epoch_machine.specs.declared.machine.Ask.TheVariants.{KeepJob}
use Rattle.epoch_machine.specs.declared.machine.Stage.{Stage}
use Rattle.epoch_machine.specs.declared.machine.Stage.TheVariants.{LoadPin, StorePin, ReloadPin, LoadScan, Scan}
use Rattle.epoch_machine.specs.declared.machine.Stage.TheVariants.{StoreFree}
use Rattle.epoch_machine.specs.declared.machine.Stage.TheVariants.{Advance, Take, Calling, LoadSeal, Keep, LoadRepin}
use Rattle.epoch_machine.specs.declared.machine.Stage.TheVariants.{StoreRepin, ReloadRepin, StoreUnpinned, End}
use Rattle.epoch_machine.specs.Machine.{Machine, hears, ask_at, asks, after_collect, after_put, after_unpin, scanned}
use Rattle.epoch_machine.specs.Machine.{past_word, holds_up, is_empty, put_heard, took_heard, gives}
use Rattle.epoch_machine.specs.Machine.{after_job, begun, rest}
use Rattle.epoch_machine.specs.Asks.{Reply, Heard, PutStepped, TakeStepped, JobGiven, IsReply, told}
use Rattle.epoch_handles.specs.JobsKept.{job_kept}

module _ {J : Type 0} where
  -- A position is freed only where its held bag was put or was empty.
  abbrev NoneLeftAt : Stage → Action → Bool → List J → Type 0
  NoneLeftAt StoreUnpinned Release false held = held ≡ []
  NoneLeftAt StoreFree action full held = held ≡ []
  NoneLeftAt stage action full held = Unit {0}

  abbrev pub NoneLeft : Machine J → Type 0
  NoneLeft m = NoneLeftAt m.stage m.action m.full m.held

  collected_none : (a : Action) (full : Bool) (held : List J) → NoneLeftAt (after_collect a held) a full held
  collected_none Release true [] = tt
  collected_none Release false [] = refl
  collected_none Release full (job ∷ jobs) = tt
  collected_none Pin full held = tt
  collected_none Unpin full held = tt
  collected_none Repin full held = tt
  collected_none Defer full held = tt
  collected_none Flush full held = tt

  either_none : (b : Bool) (s t : Stage) (a : Action) (full : Bool) (held : List J)
      → NoneLeftAt s a full held → NoneLeftAt t a full held → NoneLeftAt (if b then s else t) a full held
  either_none true s t a full held first second = first
  either_none false s t a full held first second = second

  unpinned_none : (a : Action) (full : Bool) (held : List J)
      → NoneLeftAt StoreUnpinned a full held → NoneLeftAt (after_unpin a full) a full held
  unpinned_none Release false held none = none
  unpinned_none Release true held none = tt
  unpinned_none Pin full held none = tt
  unpinned_none Unpin full held none = tt
  unpinned_none Repin full held none = tt
  unpinned_none Defer full held none = tt
  unpinned_none Flush full held none = tt

  word_none : (positions e k w : ℕ) (a : Action) (full : Bool) (held : List J)
      → NoneLeftAt (past_word positions e k w) a full held
  word_none positions e k w a full held =
      either_none (holds_up e w) (Take e 0) _ a full held tt
      (either_none (k + 1 == positions) (scanned e) (Scan e (k + 1)) a full held
      (either_none (e == 2 ^ 63 - 1) (Take e 0) (Advance e) a full held tt tt) tt)

  heard_none : (m : Machine J) (s : Stage) (a : Answer J) → m.stage ≡ s
      → NoneLeftAt s m.action m.full m.held → NoneLeft (hears m s a)
  heard_none m LoadPin (Epoch e) is none = tt
  heard_none m ReloadPin (Epoch e) is none =
      either_none (m.pins == 1) LoadScan (after_collect m.action m.held) m.action m.full m.held tt
      (collected_none m.action m.full m.held)
  heard_none m LoadScan (Epoch e) is none = tt
  heard_none m LoadSeal (Epoch e) is none = tt
  heard_none m LoadRepin (Epoch e) is none =
      either_none (m.published == e) End (StoreRepin e) m.action m.full m.held tt tt
  heard_none m ReloadRepin (Epoch e) is none = tt
  heard_none m (Scan e k) (Word w) is none = word_none m.sizes.positions e k w m.action m.full m.held
  heard_none m (StorePin e) Stored is none = tt
  heard_none m (StoreRepin e) Stored is none = tt
  heard_none m (Advance e) Stored is none = tt
  heard_none m StoreUnpinned Stored is none = unpinned_none m.action m.full m.held none
  heard_none m StoreFree Stored is none = tt
  heard_none m Keep (Job job) is none = tt
  heard_none m s a is none = subst (λ z. NoneLeftAt z m.action m.full m.held) (sym is) none

  put_done_none : (a : Action) (held : List J) → held ≡ [] → NoneLeftAt (after_put a false) a false held
  put_done_none Flush held none = tt
  put_done_none Defer held none = tt
  put_done_none Release held none = none
  put_done_none Pin held none = tt
  put_done_none Unpin held none = tt
  put_done_none Repin held none = tt

  put_full_none : (a : Action) (held : List J) → NoneLeftAt (after_put a true) a true held
  put_full_none Flush held = tt
  put_full_none Defer held = tt
  put_full_none Release held = tt
  put_full_none Pin held = tt
  put_full_none Unpin held = tt
  put_full_none Repin held = tt

  put_none : (m : Machine J) (step : PutStep) → NoneLeft m → NoneLeft (put_heard m step)
  put_none m PutAgain none = none
  put_none m Done none = put_done_none m.action [] refl
  put_none m Full none = put_full_none m.action m.held

  job_none : (m : Machine J) (x k : ℕ) (jobs : List J) → NoneLeftAt (after_job m x k jobs) m.action m.full m.held
  job_none m x k jobs = either_none (is_empty jobs) _ (Calling x k) m.action m.full m.held
      (either_none (k + 1 == m.sizes.collect_bags) (after_collect m.action m.held) (Take x (k + 1)) m.action m.full
      m.held (collected_none m.action m.full m.held) tt) tt

  took_none : (m : Machine J) (s : Stage) (step : TakeStep) (jobs : List J) → m.stage ≡ s
      → NoneLeftAt s m.action m.full m.held → NoneLeft (took_heard m s step jobs)
  took_none m (Take x k) TakeEnds jobs is none = collected_none m.action m.full m.held
  took_none m (Take x k) Got jobs is none = job_none m x k jobs
  took_none m s step jobs is none = subst (λ z. NoneLeftAt z m.action m.full m.held) (sym is) none

  gives_none : (m : Machine J) (s : Stage) (jobs : List J) → m.stage ≡ s
      → NoneLeftAt s m.action m.full m.held → NoneLeft (gives m s jobs)
  gives_none m (Calling x k) jobs is none = job_none m x k jobs
  gives_none m s jobs is none = subst (λ z. NoneLeftAt z m.action m.full m.held) (sym is) none

  pub told_none : (m : Machine J) (reply : Reply J) → NoneLeft m → NoneLeft (told m reply)
  told_none m (Heard a) none = heard_none m m.stage a refl none
  told_none m (PutStepped step) none = put_none m step none
  told_none m (TakeStepped step jobs) none = took_none m m.stage step jobs refl none
  told_none m (JobGiven job) none = gives_none m m.stage (rest m.hand) refl none

  pub begun_none : (action : Action) (m : Machine J) → NoneLeft (begun action m)
  begun_none Pin m = either_none (m.guards == 0) LoadPin End Pin false m.held tt tt
  begun_none Unpin m = either_none (m.guards == 1) StoreUnpinned End Unpin false m.held tt tt
  begun_none Repin m = either_none (m.guards == 1) LoadRepin End Repin false m.held tt tt
  begun_none Defer m = either_none (length m.held == m.sizes.bag_jobs) LoadSeal Keep Defer false m.held tt tt
  begun_none Flush m = either_none (is_empty m.held) LoadScan LoadSeal Flush false m.held tt tt
  begun_none Release m = tt

  -- WHAT IS HELD

  -- what a step of a put takes out of the held bag
  abbrev pub put_weight : (J → ℕ) → List J → PutStep → ℕ
  put_weight weigh held Done = sum_by weigh held
  put_weight weigh held step = 0

  abbrev pub put_out : (J → ℕ) → List J → Reply J → ℕ
  put_out weigh held (PutStepped step) = put_weight weigh held step
  put_out weigh held reply = 0

  -- an answer of the tables leaves the held jobs, and a job that is kept comes behind them
  heard_held : (weigh : J → ℕ) (m : Machine J) (s : Stage) (ask : Ask) (a : Answer J) → ask_at s ≡ Some ask
      → IsReply ask m.hand (Heard a) → NoneLeftAt s m.action m.full m.held
      → sum_by weigh m.held + sum_by weigh (job_kept (Heard a)) ≡ sum_by weigh (hears m s a).held
  heard_held weigh m LoadPin ask (Epoch e) is reply none = omega arith
  heard_held weigh m ReloadPin ask (Epoch e) is reply none = omega arith
  heard_held weigh m LoadScan ask (Epoch e) is reply none = omega arith
  heard_held weigh m LoadSeal ask (Epoch e) is reply none = omega arith
  heard_held weigh m LoadRepin ask (Epoch e) is reply none = omega arith
  heard_held weigh m ReloadRepin ask (Epoch e) is reply none = omega arith
  heard_held weigh m (Scan e k) ask (Word w) is reply none = omega arith
  heard_held weigh m (StorePin e) ask Stored is reply none = omega arith
  heard_held weigh m (StoreRepin e) ask Stored is reply none = omega arith
  heard_held weigh m (Advance e) ask Stored is reply none = omega arith
  heard_held weigh m StoreUnpinned ask Stored is reply none = omega arith
  heard_held weigh m StoreFree ask Stored is reply none =
      let nothing = ap (λ (l : List J). sum_by weigh l) none in omega arith
  heard_held weigh m Keep ask (Job job) is reply none = let more = sum_by_push weigh m.held job in omega arith
  heard_held weigh m s KeepJob (Job job) is reply none = absurd (cc is)
  heard_held weigh m s ask (Job job) is reply none = absurd reply
  heard_held weigh m s ask a is reply none = omega arith

  took_held : (m : Machine J) (s : Stage) (step : TakeStep) (jobs : List J) → (took_heard m s step jobs).held ≡ m.held
  took_held m (Take x k) TakeAgain jobs = refl
  took_held m (Take x k) TakeEnds jobs = refl
  took_held m (Take x k) Got jobs = refl
  took_held m s step jobs = refl

  gives_held : (m : Machine J) (s : Stage) (jobs : List J) → (gives m s jobs).held ≡ m.held
  gives_held m (Calling x k) jobs = refl
  gives_held m s jobs = refl

  -- what was held and is kept is held now, or was put
  pub told_held : (weigh : J → ℕ) (m : Machine J) (ask : Ask) (reply : Reply J) → asks m ≡ Some ask
      → IsReply ask m.hand reply → NoneLeft m
      → sum_by weigh m.held + sum_by weigh (job_kept reply)
      ≡ sum_by weigh (told m reply).held + put_out weigh m.held reply
  told_held weigh m ask (Heard a) is reply none =
      let same = heard_held weigh m m.stage ask a is reply none in omega arith
  told_held weigh m ask (PutStepped PutAgain) is reply none = omega arith
  told_held weigh m ask (PutStepped Done) is reply none = omega arith
  told_held weigh m ask (PutStepped Full) is reply none = omega arith
  told_held weigh m ask (TakeStepped step jobs) is reply none =
      let same = ap (λ (l : List J). sum_by weigh l) (took_held m m.stage step jobs) in omega arith
  told_held weigh m ask (JobGiven job) is reply none =
      let same = ap (λ (l : List J). sum_by weigh l) (gives_held m m.stage (rest m.hand)) in omega arith
