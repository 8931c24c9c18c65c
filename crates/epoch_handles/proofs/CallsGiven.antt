-- Whose jobs a call gives to be called: those of the bags that it got, in their order.
use Rattle.std.proofs.Common.{◌≡◌, ◌≢◌, ℕ, ◌+◌, ◌≤◌, ◌==◌, if◌then◌else◌, Bool, true, false, List, [], ◌∷◌, ◌++◌}
use Rattle.std.proofs.Common.{Some, refl, sym, ap, subst, ◌∙◌, inl, inr, arith}
use Rattle.std.proofs.lemmas.Bool.Decides.{eqb_tells}
use Rattle.std.proofs.lemmas.List.{append_assoc, append-nil}
use Rattle.std.proofs.lemmas.Option.{same_Some}
use Rattle.std.proofs.lemmas.List.Elements.{All-nil, All-cons, All-append}
use Rattle.std.specs.List.{All}
use Rattle.epoch_bags.specs.Bags.{Sealed, IsExpired}
use Rattle.epoch_bags.specs.CursorSteps.{IsExpiredWord}
use Rattle.epoch_tables.specs.SharedPlaces.{PlaceMe}
use Rattle.epoch_tables.specs.SharedSteps.{TakeMoves}
use Rattle.epoch_bags.specs.declared.queue.PutStep.{PutStep}
use Rattle.epoch_bags.specs.declared.queue.PutStep.TheVariants.{Again as PutAgain, Done, Full}
use Rattle.epoch_bags.specs.declared.queue.TakeStep.TheVariants.{Again as TakeAgain, Empty as TakeEnds, Got}
use Rattle.epoch_bags.specs.declared.queue.places.TakeCursor.{TakeCursor}
use Rattle.epoch_bags.specs.declared.queue.places.TakeCursor.TheVariants.{Look as TakeLook, Claim as TakeClaim, Empty}
use Rattle.epoch_machine.specs.declared.machine.Answer.{Answer}
use Rattle.epoch_machine.specs.declared.machine.Answer.TheVariants.{Epoch, Stored}
use Rattle.epoch_machine.specs.declared.machine.Ask.{Ask}
use Rattle.epoch_machine.specs.declared.machine.Ask.TheVariants.{TakeBag, CallJob}
use Rattle.epoch_machine.specs.declared.machine.Stage.{Stage}
use Rattle.epoch_machine.specs.declared.machine.Stage.TheVariants.{Advance, Take, Calling}
use Rattle.epoch_machine.specs.Machine.{Machine, ask_at, put_heard, took_heard, gives, after_collect, after_job, rest}
use Rattle.epoch_machine.specs.Machine.{begun, first_stage}
use Rattle.epoch_machine.specs.declared.machine.Action.{Action}
use Rattle.epoch_machine.specs.Asks.{Reply, Heard, PutStepped, TakeStepped, JobGiven, Log, IsReply, told}
use Rattle.epoch_handles.specs.Drives.{Sight, Situation, Performs, Performed}
use Rattle.epoch_handles.specs.Told.{IsExpiryWithin, AreExpiriesWithin}
use Rattle.epoch_handles.specs.ThreadGrace.{job_given, jobs_given, jobs_of_each, GetsBags, PerformedWithBags}
use Rattle.epoch_handles.specs.JobsKept.{left_to_call}
use Rattle.epoch_handles.proofs.StagesHeard.{StageIs, AnswerIs, either_is, collected_is, put_is, heard_is, begun_is}

-- AT WHICH STAGES JOBS ARE CALLED

abbrev Any : ℕ → Type 0
Any epoch = Unit {0}

abbrev Never : ℕ → Type 0
Never epoch = ⊥

-- no job of a bag in hand is called at this stage
abbrev CallsNothing : Stage → Type 0
CallsNothing = StageIs Any Never

any_answer : {J : Type 0} (s : Stage) (a : Answer J) → AnswerIs Any Never s a
any_answer (Advance e) Stored = tt
any_answer s (Epoch e) = tt
any_answer s a = tt

-- what is asked there is something else than a call
calls_nothing_at : (s : Stage) (ask : Ask) → ask_at s ≡ Some ask → ask ≢ CallJob → CallsNothing s
calls_nothing_at (Calling x k) ask is other = absurd (other (sym (same_Some CallJob ask is)))
calls_nothing_at _ ask is other = tt

none_at : {J : Type 0} (s : Stage) (hand : List J) → CallsNothing s → left_to_call s hand ≡ []
none_at (Calling x k) hand nothing = absurd nothing
none_at _ hand nothing = refl

module _ {J : Type 0} where
  abbrev pub owed : Machine J → List J
  owed m = left_to_call m.stage m.hand

  -- the bag in hand is called, as far as it has jobs
  after_owed : (m : Machine J) (x k : ℕ) (jobs : List J) → left_to_call (after_job m x k jobs) jobs ≡ jobs
  after_owed m x k [] = none_at (after_job m x k []) [] (either_is Any Never (k + 1 == m.sizes.collect_bags)
      (after_collect m.action m.held) (Take x (k + 1)) (collected_is Any Never m.action m.held) tt)
  after_owed m x k (job ∷ jobs) = refl

  put_calls_nothing : (m : Machine J) (step : PutStep) → CallsNothing m.stage → CallsNothing (put_heard m step).stage
  put_calls_nothing m PutAgain at = at
  put_calls_nothing m Done at = put_is Any Never m.action false
  put_calls_nothing m Full at = put_is Any Never m.action true

  ends_calling_nothing : (m : Machine J) (s : Stage) (jobs : List J) → m.stage ≡ s
      → CallsNothing s → CallsNothing (took_heard m s TakeEnds jobs).stage
  ends_calling_nothing m (Take x k) jobs is at = collected_is Any Never m.action m.held
  ends_calling_nothing m s jobs is at = subst CallsNothing (sym is) at

  again_calling_nothing : (m : Machine J) (s : Stage) (jobs : List J) → m.stage ≡ s
      → CallsNothing s → CallsNothing (took_heard m s TakeAgain jobs).stage
  again_calling_nothing m (Take x k) jobs is at = subst CallsNothing (sym is) at
  again_calling_nothing m s jobs is at = subst CallsNothing (sym is) at

  got_owed : (m : Machine J) (s : Stage) (x : ℕ) (jobs : List J)
      → ask_at s ≡ Some (TakeBag x) → owed (took_heard m s Got jobs) ≡ jobs
  got_owed m (Take y k) x jobs is = after_owed m y k jobs
  got_owed m _ x jobs is = absurd (cc is)

  given_owed : (m : Machine J) (s : Stage) (job : J) → m.stage ≡ s → ask_at s ≡ Some CallJob
      → m.hand ≡ job ∷ rest m.hand → left_to_call s m.hand ≡ job ∷ owed (gives m s (rest m.hand))
  given_owed m (Calling x k) job at is first =
      first ∙ ap (λ (l : List J). job ∷ l) (sym (after_owed m x k (rest m.hand)))
  given_owed m _ job at is first = absurd (cc is)

-- WHICH BAG IS GOT

got_or_not : (b : Bool) → Got ≢ (if b then TakeEnds else TakeAgain)
got_or_not true is = absurd (cc is)
got_or_not false is = absurd (cc is)

module _ {J : Type 0} where
  pub no_got_at_look : (places x place : ℕ) (next : TakeCursor) (bag : Sealed J) (v u : PlaceMe J)
      → TakeMoves places x (TakeLook place) v Got next u bag → ⊥
  no_got_at_look places x place next bag v u (past, looks) = elim (eqb_tells place places) [
    | inl last ↦ cc (past last.1).0
    | inr before ↦ let found = looks before.1 in
        let none : ¬ (IsExpiredWord x found.0) = (λ expired. absurd (cc (found.2 expired).0)) in
        got_or_not (place + 1 == places) (found.3 none).1
  ]

  pub no_got_at_claim : (places x place claims : ℕ) (next : TakeCursor) (bag : Sealed J) (v u : PlaceMe J)
      → TakeMoves places x (TakeClaim place claims) v Got next u bag → ⊥
  no_got_at_claim places x place claims next bag v u (word, won, lost) = elim (eqb_tells word claims) [
    | inl same ↦ cc (won same.1).1
    | inr differs ↦ got_or_not (place + 1 == places) (lost differs.1).1.1
  ]

  -- A bag that is got was in hand before, out of a place that had been claimed.
  got_from_hand : (places x : ℕ) (cursor next : TakeCursor) (bag : Sealed J) (v u : PlaceMe J)
      → TakeMoves places x cursor v Got next u bag
      → (place : ℕ) × (v.1 ≡ (place, Some bag) ∷ []) × IsExpired x bag
  got_from_hand places x (TakeLook place) next bag v u moves =
      absurd (no_got_at_look places x place next bag v u moves)
  got_from_hand places x (TakeClaim place claims) next bag v u moves =
      absurd (no_got_at_claim places x place claims next bag v u moves)
  got_from_hand places x (Empty place) next bag v u (got, goes, (is, hand, expired)) = (place, hand, expired)

-- ONE STEP

module _ {J : Type 0} where
  -- What is in hand after a step is what was in hand and was got, without the job that was given.
  pub record Gives (seen : ℕ) (v : Sight J) (m : Machine J) (reply : Reply J) (n : Machine J) : Type 0 where
    pub got : List (Sealed J)
    pub gets : GetsBags v reply got
    pub jobs : owed m ++ jobs_of_each got ≡ job_given reply ++ owed n
    pub expired : All (λ bag. bag.seal + 2 ≤ seen) got

  nothing_owed : (m n : Machine J) → CallsNothing m.stage → CallsNothing n.stage → owed m ++ [] ≡ owed n
  nothing_owed m n before after =
      ap (λ (l : List J). l ++ []) (none_at m.stage m.hand before) ∙ sym (none_at n.stage n.hand after)

  pub one_gives : (places seen : ℕ) (before after : Situation J) (ask : Ask) (reply : Reply J)
      → ask_at before.machine.stage ≡ Some ask
      → IsReply ask before.machine.hand reply
      → Performs places before ask reply after
      → IsExpiryWithin seen ask
      → Gives seen before.sight before.machine reply (told before.machine reply)
  one_gives places seen before after ask (Heard a) asked is performs within =
      let m = before.machine in
      let calls = calls_nothing_at m.stage ask asked
      (λ call. subst (λ z. Performs places before z (Heard a) after) call performs) in record {
        got = [];
        gets = refl;
        jobs = nothing_owed m (told m (Heard a)) calls
            (heard_is Any Never m m.stage a refl calls (any_answer m.stage a));
        expired = All-nil _;
      }
  one_gives places seen before after ask (PutStepped step) asked is performs within =
      let m = before.machine in
      let calls = calls_nothing_at m.stage ask asked
      (λ call. subst (λ z. Performs places before z (PutStepped step) after) call performs) in record {
        got = [];
        gets = refl;
        jobs = nothing_owed m (told m (PutStepped step)) calls (put_calls_nothing m step calls);
        expired = All-nil _;
      }
  one_gives places seen before after ask (TakeStepped TakeAgain jobs) asked is performs within =
      let m = before.machine in
      let calls = calls_nothing_at m.stage ask asked
      (λ call. subst (λ z. Performs places before z (TakeStepped TakeAgain jobs) after) call performs) in record {
        got = [];
        gets = refl;
        jobs = nothing_owed m (told m (TakeStepped TakeAgain jobs)) calls
            (again_calling_nothing m m.stage jobs refl calls);
        expired = All-nil _;
      }
  one_gives places seen before after ask (TakeStepped TakeEnds jobs) asked is performs within =
      let m = before.machine in
      let calls = calls_nothing_at m.stage ask asked
      (λ call. subst (λ z. Performs places before z (TakeStepped TakeEnds jobs) after) call performs) in record {
        got = [];
        gets = refl;
        jobs = nothing_owed m (told m (TakeStepped TakeEnds jobs)) calls
            (ends_calling_nothing m m.stage jobs refl calls);
        expired = All-nil _;
      }
  one_gives places seen before after (TakeBag x) (TakeStepped Got jobs) asked is (words, put, (bag, of, moves)) within =
      let m = before.machine in
      let calls = calls_nothing_at m.stage (TakeBag x) asked (λ call. absurd (cc call)) in
      let from =
      got_from_hand places x before.cursors.take after.cursors.take bag before.sight.places after.sight.places moves in
      let two = from.2 in record {
        got = bag ∷ [];
        gets = (from.0, bag, from.1, of refl, refl);
        jobs = ap (λ (l : List J). l ++ (bag.jobs ++ [])) (none_at m.stage m.hand calls)
            ∙ append-nil bag.jobs ∙ sym (of refl) ∙ sym (got_owed m m.stage x jobs asked);
        expired = All-cons (λ (z : Sealed J). z.seal + 2 ≤ seen) bag [] (omega arith) (All-nil _);
      }
  one_gives places seen before after CallJob (JobGiven job) asked is performs within =
      let m = before.machine in record {
        got = [];
        gets = refl;
        jobs = append-nil (owed m) ∙ given_owed m m.stage job refl asked is;
        expired = All-nil _;
      }
  one_gives places seen before after ask reply asked is performs within = absurd performs

-- A CALL

module _ {J : Type 0} where
  bags_behind : (got more : List (Sealed J)) → jobs_of_each (got ++ more) ≡ jobs_of_each got ++ jobs_of_each more
  bags_behind [] more = refl
  bags_behind (bag ∷ bags) more = ap (λ (l : List J). bag.jobs ++ l) (bags_behind bags more)
      ∙ sym (append_assoc bag.jobs (jobs_of_each bags) (jobs_of_each more))

  pub begins_with_none : (action : Action) (m : Machine J) → owed (begun action m) ≡ []
  begins_with_none action m = none_at (first_stage action m) m.hand (begun_is Any Never action m)

  -- the bags got along a log, and what is left in hand of the last one
  pub record GivesAll (places seen : ℕ) (before : Situation J) (log : Log J) (after : Situation J) : Type 0 where
    pub bags : List (Sealed J)
    pub gets : PerformedWithBags places before log bags after
    pub left : List J
    pub jobs : owed before.machine ++ jobs_of_each bags ≡ jobs_given log ++ left
    pub expired : All (λ bag. bag.seal + 2 ≤ seen) bags

  pub gives_all : (places seen : ℕ) (before after : Situation J) (log : Log J)
      → Performed places before log after
      → AreExpiriesWithin seen log
      → GivesAll places seen before log after
  gives_all places seen before after [] performed within = record {
    bags = [];
    gets = (performed, refl);
    left = owed before.machine ++ [];
    jobs = refl;
    expired = All-nil _;
  }
  gives_all places seen before after (x ∷ log) (next, exchange, behind) within =
      let one = one_gives places seen before next x.ask x.reply exchange.asked exchange.is_reply exchange.performs
      within.0 in
      let more = gives_all places seen next after log behind within.1 in
      let owes = owed before.machine in
      let told_next : owed (told before.machine x.reply) ≡ owed next.machine =
      ap (λ (m : Machine J). owed m) (sym exchange.machine) in record {
        bags = one.got ++ more.bags;
        gets = (next, exchange, (one.got, more.bags, one.gets, refl, more.gets));
        left = more.left;
        jobs = ap (λ (l : List J). owes ++ l) (bags_behind one.got more.bags)
            ∙ sym (append_assoc owes (jobs_of_each one.got) (jobs_of_each more.bags))
            ∙ ap (λ (l : List J). l ++ jobs_of_each more.bags)
            (one.jobs ∙ ap (λ (l : List J). job_given x.reply ++ l) told_next)
            ∙ append_assoc (job_given x.reply) (owed next.machine) (jobs_of_each more.bags)
            ∙ ap (λ (l : List J). job_given x.reply ++ l) more.jobs
            ∙ sym (append_assoc (job_given x.reply) (jobs_given log) more.left);
        expired = All-append (λ (z : Sealed J). z.seal + 2 ≤ seen) one.got more.bags one.expired more.expired;
      }
