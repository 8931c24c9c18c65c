-- What a participant's step finds of its collection, and whose claims it leaves.
use Rattle.std.proofs.Common.{◌≡◌, ◌≢◌, ℕ, zero, suc, ◌+◌, ◌<◌, ◌==◌, if◌then◌else◌, Bool, true, false, List, [], ◌∷◌}
use Rattle.std.proofs.Common.{length, Option, Some, ◌⊎◌, inl, inr, refl, ap, sym, subst, ◌∙◌, arith, slice_get}
use Rattle.std.proofs.Common.{slice_index_or, slice_set, get_or-set_same}
use Rattle.epoch_bags.specs.Stores.{FindsBag}
use Rattle.epoch_bags.specs.declared.queue.TakeStep.{TakeStep}
use Rattle.epoch_bags.specs.declared.queue.TakeStep.TheVariants.{Again as TakeAgain, Empty, Got}
use Rattle.epoch_machine.specs.declared.machine.Ask.{Ask}
use Rattle.epoch_machine.specs.declared.machine.Ask.TheVariants.{LoadWord, StoreEpoch, TakeBag, CallJob}
use Rattle.epoch_machine.specs.declared.machine.Sizes.{Sizes}
use Rattle.epoch_machine.specs.declared.machine.Stage.{Stage}
use Rattle.epoch_machine.specs.declared.machine.Stage.TheVariants.{Take, Calling}
use Rattle.epoch_machine.specs.declared.machine.Action.{Action}
use Rattle.epoch_machine.specs.declared.machine.Action.TheVariants.{Release}
use Rattle.epoch_machine.specs.Machine.{Machine, TakesHand, ask_at, asks, is_taking, took_heard, gives, after_job}
use Rattle.epoch_machine.specs.Machine.{after_collect}
use Rattle.epoch_laws.specs.declared.step.Deferral.{Deferral}
use Rattle.epoch_laws.specs.declared.step.Progress.{Progress}
use Rattle.epoch_laws.specs.declared.step.Progress.TheVariants.{Driven}
use Rattle.epoch_laws.specs.declared.step.Word.{Word}
use Rattle.epoch_laws.specs.declared.step.Word.TheVariants.{Free}
use Rattle.epoch_laws.specs.Collections.{Outlook, outlook, is_collecting, expiry_of, TakesAhead, FindsAhead, OwnClaims}
use Rattle.epoch_laws.specs.Collections.{LeavesClaims, MayClaim}
use Rattle.epoch_laws.specs.Run.{Bag, WorldSeat, State, NoneTakes, is_driven, turn_at, turn_of, free_seat}
use Rattle.epoch_world.specs.Worlds.{aheads, NobodyClaims, ClaimsKnown}
use Rattle.epoch_laws.proofs.SeatLemmas.{same_or_other}
use Rattle.epoch_laws.proofs.StoredBags.{one_less}

-- ONE STEP OF A COLLECTION

-- only one who is taking bags asks for one
asks_taking : (s : Stage) (x : ℕ) → ask_at s ≡ Some (TakeBag x) → is_taking s ≡ true
asks_taking (Take x k) y asked = refl
asks_taking _ y asked = absurd (cc (asked))

-- a machine with a collection under way asks for a bag next
pub taking_asks : (s : Stage) → is_taking s ≡ true → (x : ℕ) × (ask_at s ≡ Some (TakeBag x))
taking_asks (Take x k) taking = (x, refl)
taking_asks _ taking = absurd (cc (taking))

took_again : (m : Machine Deferral) (s : Stage) (jobs : List Deferral)
    → is_taking s ≡ true → took_heard m s TakeAgain jobs ≡ m
took_again m (Take x k) jobs taking = refl
took_again m _ jobs taking = absurd (cc (taking))

takes_for : (s : Stage) (x : ℕ) → ask_at s ≡ Some (TakeBag x) → expiry_of s ≡ x
takes_for (Take x k) y asked = cc (asked)
takes_for _ y asked = absurd (cc (asked))

-- a collection that goes on is for the same epoch
same_epoch : (t : Bool) (s : Stage) (x k : ℕ) → is_collecting s ≡ false
    → is_collecting (if t then s else Take x k) ≡ true → expiry_of (if t then s else Take x k) ≡ x
same_epoch true s x k off on = absurd (cc (off, on))
same_epoch false s x k off on = refl

collected : (a : Action) (jobs : List Deferral) → is_collecting (after_collect a jobs) ≡ false
collected Release [] = refl
collected Release (job ∷ jobs) = refl
collected _ jobs = refl

job_for : (m : Machine Deferral) (x k : ℕ) (jobs : List Deferral)
    → is_collecting (after_job m x k jobs) ≡ true → expiry_of (after_job m x k jobs) ≡ x
job_for m x k (job ∷ jobs) on = refl
job_for m x k [] on =
    same_epoch (k + 1 == m.sizes.collect_bags) (after_collect m.action m.held) x (k + 1) (collected m.action m.held) on

goes_for : (m : Machine Deferral) (s : Stage) (x : ℕ) (step : TakeStep) (jobs : List Deferral)
    → ask_at s ≡ Some (TakeBag x) → is_collecting (took_heard m s step jobs).stage ≡ true → expiry_of m.stage ≡ x
    → expiry_of (took_heard m s step jobs).stage ≡ x
goes_for m (Take y k) x TakeAgain jobs asked on at = at
goes_for m (Take y k) x Empty jobs asked on at = absurd (cc (collected m.action m.held, on))
goes_for m (Take y k) x Got jobs asked on at = let same : y ≡ x = cc (asked) in job_for m y k jobs on ∙ same
goes_for m _ x step jobs asked on at = absurd (cc (asked))

-- the call of a job leaves the collection where it was
calls_for : (m : Machine Deferral) (s : Stage) (jobs : List Deferral) → ask_at s ≡ Some CallJob
    → is_collecting (gives m s jobs).stage ≡ true → expiry_of (gives m s jobs).stage ≡ expiry_of s
calls_for m (Calling x k) jobs asked on = job_for m x k jobs on
calls_for m _ jobs asked on = absurd (cc (asked))

-- the call of a job leaves the epoch that its collection is for
pub gave_ahead : (m n : Machine Deferral) (f : ℕ → ℕ) (jobs : List Deferral) → asks m ≡ Some CallJob
    → n ≡ gives m m.stage jobs → is_collecting n.stage ≡ true → f (expiry_of n.stage) ≡ f (expiry_of m.stage)
gave_ahead m n f jobs asked gave on =
    ap f (ap (λ (q : Machine Deferral). expiry_of q.stage) gave
    ∙ calls_for m m.stage jobs asked (ap (λ (q : Machine Deferral). is_collecting q.stage) (sym gave) ∙ on))

module _ (x : ℕ) (m n : Machine Deferral) (step : TakeStep) (asked : asks m ≡ Some (TakeBag x))
    (heard : n ≡ took_heard m m.stage step n.hand) where
  still_takes : (step : TakeStep) → n ≡ took_heard m m.stage step n.hand → step ≡ TakeAgain → is_taking n.stage ≡ true
  still_takes TakeAgain heard e = ap (λ (q : Machine Deferral). is_taking q.stage)
      (heard ∙ took_again m m.stage n.hand (asks_taking m.stage x asked)) ∙ asks_taking m.stage x asked
  still_takes Empty heard e = absurd (cc (e))
  still_takes Got heard e = absurd (cc (e))

  -- which epoch it is for, before the step and, if it goes on, after it
  before_at : expiry_of m.stage ≡ x
  before_at = takes_for m.stage x asked

  behind_at : is_collecting n.stage ≡ true → expiry_of n.stage ≡ x
  behind_at on = by_step step heard
    where
      by_step : (step : TakeStep) → n ≡ took_heard m m.stage step n.hand → expiry_of n.stage ≡ x
      by_step step heard = subst (λ (s : Stage). expiry_of s ≡ x) (sym (ap (λ (q : Machine Deferral). q.stage) heard))
          (goes_for m m.stage x step n.hand asked
          (ap (λ (q : Machine Deferral). is_collecting q.stage) (sym heard) ∙ on) before_at)

  -- a step on a place leaves as many bags ahead as its answer tells
  pub took_ahead : (f f' : ℕ → ℕ) (bags bags' : List Bag)
      → TakesHand x bags step bags' n.hand → FindsBag (f x) step (f' x)
      → TakesAhead n (outlook bags (f (expiry_of m.stage))) (outlook bags' (f' (expiry_of n.stage)))
  took_ahead f f' bags bags' hand finds =
      by_step step heard hand (subst (λ (y : ℕ). FindsBag (f y) step (f' x)) (sym before_at) finds)
    where
      now : is_collecting n.stage ≡ true → f' (expiry_of n.stage) ≡ f' x
      now on = ap f' (behind_at on)

      by_step : (step : TakeStep) → n ≡ took_heard m m.stage step n.hand → TakesHand x bags step bags' n.hand
          → FindsBag (f (expiry_of m.stage)) step (f' x)
          → TakesAhead n (outlook bags (f (expiry_of m.stage))) (outlook bags' (f' (expiry_of n.stage)))
      by_step TakeAgain heard hand finds = record {
        counted = λ on. omega (arith, ap length hand, finds, now on);
        none = λ over same. absurd (cc (over, still_takes TakeAgain heard refl));
      }
      by_step Empty heard hand finds = record {
        counted = λ on. omega (arith, ap length hand, finds.0, finds.1, now on);
        none = λ over same. finds.0;
      }
      by_step Got heard (bag, its, expired, out) finds = record {
        counted = λ on. omega (arith, one_less bags bags' bag out, finds, now on);
        none = λ over same. absurd (omega (arith, one_less bags bags' bag out, same));
      }

  -- a collection that has ended leaves no claim of its own
  pub took_claims : (Claimed Claims Claimed' Claims' : ℕ → Type 0)
      → ((place : ℕ) → Claimed' place → Claims' place ⊎ (Claimed place × (¬ (Claims place))))
      → (step ≢ TakeAgain → (place : ℕ) → ¬ (Claims' place))
      → LeavesClaims Claimed Claims Claimed' (OwnClaims n.stage Claims')
  took_claims Claimed Claims Claimed' Claims' claims lets_go place not_own claimed = elim (claims place claimed) [
    | inl own ↦ absurd (by_step step heard lets_go own)
    | inr others ↦ others
  ]
    where
      by_step : (step : TakeStep) → n ≡ took_heard m m.stage step n.hand
          → (step ≢ TakeAgain → (place : ℕ) → ¬ (Claims' place)) → Claims' place → ⊥
      by_step TakeAgain heard goes own = not_own (still_takes TakeAgain heard refl, own)
      by_step Empty heard goes own = goes (λ e. cc (e)) place own
      by_step Got heard goes own = goes (λ e. cc (e)) place own

-- so a step on a place tells what is ahead
pub took_finds : (Alone : Type 0) (ask : Ask) (x : ℕ) (m before n : Machine Deferral) (f f' : ℕ → ℕ)
    (bags bags' : List Bag) → m ≡ before → ask ≡ TakeBag x
    → TakesAhead n (outlook bags (f (expiry_of m.stage))) (outlook bags' (f' (expiry_of n.stage)))
    → FindsAhead Alone (Some ask) n (outlook bags (f (expiry_of before.stage))) (outlook bags' (f' (expiry_of n.stage)))
took_finds Alone ask x m before n f f' bags bags' same is took = subst (λ (a : Ask). FindsAhead Alone (Some a) n
    (outlook bags (f (expiry_of before.stage))) (outlook bags' (f' (expiry_of n.stage)))) (sym is)
    (subst (λ (q : Machine Deferral). TakesAhead n (outlook bags (f (expiry_of q.stage)))
    (outlook bags' (f' (expiry_of n.stage)))) same took)

-- and so does the call of a job
pub gave_finds : (Alone : Type 0) (ask : Ask) (m before n : Machine Deferral) (f : ℕ → ℕ) (bags : List Bag)
    (jobs : List Deferral) → m ≡ before → ask ≡ CallJob → asks m ≡ Some CallJob → n ≡ gives m m.stage jobs
    → FindsAhead Alone (Some ask) n (outlook bags (f (expiry_of before.stage))) (outlook bags (f (expiry_of n.stage)))
gave_finds Alone ask m before n f bags jobs same is asked gave = subst (λ (a : Ask). FindsAhead Alone (Some a) n
    (outlook bags (f (expiry_of before.stage))) (outlook bags (f (expiry_of n.stage)))) (sym is)
    (λ on. gave_ahead m n f jobs asked gave on ∙ ap (λ (q : Machine Deferral). f (expiry_of q.stage)) same)

-- only a step on a place claims a bag
pub may_claim : (ask : Ask) (x : ℕ) (s : Stage) (Claimed Claims Claimed' Claims' : ℕ → Type 0) → ask ≡ TakeBag x
    → LeavesClaims Claimed Claims Claimed' (OwnClaims s Claims') → MayClaim ask s Claimed Claims Claimed' Claims'
may_claim ask x s Claimed Claims Claimed' Claims' is leaves =
    subst (λ (a : Ask). MayClaim a s Claimed Claims Claimed' Claims') (sym is) leaves

-- by what a participant asks for
pub leaves_by : (ask : Ask) (m n : Machine Deferral) (Claimed Claims Claimed' Claims' : ℕ → Type 0)
    → asks m ≡ Some ask → MayClaim ask n.stage Claimed Claims Claimed' Claims'
    → LeavesClaims Claimed (OwnClaims m.stage Claims) Claimed' (OwnClaims n.stage Claims')
leaves_by (TakeBag x) m n Claimed Claims Claimed' Claims' asked may place not_own claimed =
    let both = may place not_own claimed in (both.0, λ own. both.1 own.1)
leaves_by _ m n Claimed Claims Claimed' Claims' asked may place not_own claimed =
    (may place claimed, λ own. let taking = taking_asks m.stage own.0 in absurd (cc (asked, taking.1)))

-- AT A PARTICIPANT'S POSITION

-- a machine that is driven asks in its turn
pub turn_driven : (w : Word) (progress : Progress) (s : Stage) (ask : Ask)
    → w ≢ Free → is_driven progress ≡ true → ask_at s ≡ Some ask → turn_at w progress s ≡ Some ask
turn_driven Free progress s ask taken driven asked = absurd (taken refl)
turn_driven w (Driven c) s ask taken driven asked = at_word w taken
  where
    at_word : (w : Word) → w ≢ Free → turn_at w (Driven c) s ≡ Some ask
    at_word Free taken = absurd (taken refl)
    at_word _ taken = asked
turn_driven _ _ s ask taken driven asked = absurd (cc (driven))

module _ (seats : List WorldSeat) (sizes : Sizes) (p : ℕ) (seat after : WorldSeat) (ask : Ask)
    (there : p < length seats) (is : seat ≡ slice_index_or seats p (free_seat sizes)) where
  abbrev now : WorldSeat
  now = slice_index_or (slice_set seats p after) p (free_seat sizes)

  abbrev was : WorldSeat
  was = slice_index_or seats p (free_seat sizes)

  written : after ≡ now
  written = sym (get_or-set_same seats p after (free_seat sizes) there)

  -- what an ask tells of the bags ahead, the step of the participant tells
  pub performed_finds : (Alone : Type 0) (f f' : ℕ → ℕ) (bags bags' : List Bag)
      → was.word ≢ Free → is_driven was.progress ≡ true → asks was.machine ≡ Some ask
      → FindsAhead Alone (Some ask) after.machine (outlook bags (f (expiry_of seat.machine.stage)))
      (outlook bags' (f' (expiry_of after.machine.stage)))
      → FindsAhead Alone (turn_of was) now.machine (outlook bags (f (expiry_of was.machine.stage)))
      (outlook bags' (f' (expiry_of now.machine.stage)))
  performed_finds Alone f f' bags bags' taken driven asked finds =
      subst (λ (o : Option Ask). FindsAhead Alone o now.machine
      (outlook bags (f (expiry_of was.machine.stage))) (outlook bags' (f' (expiry_of now.machine.stage))))
      (sym (turn_driven was.word was.progress was.machine.stage ask taken driven asked))
      (subst (λ (q : WorldSeat). FindsAhead Alone (Some ask) now.machine (outlook bags (f (expiry_of q.machine.stage)))
      (outlook bags' (f' (expiry_of now.machine.stage)))) is
      (subst (λ (q : WorldSeat). FindsAhead Alone (Some ask) q.machine (outlook bags (f (expiry_of seat.machine.stage)))
      (outlook bags' (f' (expiry_of q.machine.stage)))) written finds))

  -- and so it is with what the ask leaves claimed
  pub performed_claims : (Claimed Claims Claimed' Claims' : ℕ → Type 0)
      → asks seat.machine ≡ Some ask → MayClaim ask after.machine.stage Claimed Claims Claimed' Claims'
      → LeavesClaims Claimed (OwnClaims was.machine.stage Claims) Claimed' (OwnClaims now.machine.stage Claims')
  performed_claims Claimed Claims Claimed' Claims' asked may =
      subst (λ (q : WorldSeat). LeavesClaims Claimed (OwnClaims q.machine.stage Claims) Claimed'
      (OwnClaims now.machine.stage Claims')) is
      (subst (λ (q : WorldSeat). LeavesClaims Claimed (OwnClaims seat.machine.stage Claims) Claimed'
      (OwnClaims q.machine.stage Claims')) written
      (leaves_by ask seat.machine after.machine Claimed Claims Claimed' Claims' asked may))

-- FROM ONE PARTICIPANT TO ALL

-- no test is both
pub not_both : (t : Bool) → t ≡ true → t ≡ false → ⊥
not_both t holds fails = cc (holds, fails)

same_some : {A : Type 0} {a b : A} → Some a ≡ Some b → a ≡ b
same_some e = cc (e)

-- what is written in a list is found there
pub get_set_same : {A : Type 0} (xs : List A) (p : ℕ) (a : A) → p < length xs → slice_get (slice_set xs p a) p ≡ Some a
get_set_same [] p a there = absurd (omega arith)
get_set_same (x ∷ xs) zero a there = refl
get_set_same (x ∷ xs) (suc p) a there = get_set_same xs p a (omega arith)

get_set_other : {A : Type 0} (xs : List A) (p q : ℕ) (a : A) → q ≢ p → slice_get (slice_set xs p a) q ≡ slice_get xs q
get_set_other (x ∷ xs) zero zero a other = absurd (other refl)
get_set_other (x ∷ xs) (suc p) (suc q) a other = get_set_other xs p q a (λ e. other (ap suc e))
get_set_other _ _ _ a other = refl

-- what is put back is what was there
pub set_back : {A : Type 0} (xs : List A) (p : ℕ) (a : A) → a ≡ slice_index_or xs p a → slice_set xs p a ≡ xs
set_back [] p a is = refl
set_back (x ∷ xs) zero a is = ap (λ (y : _). y ∷ xs) is
set_back (x ∷ xs) (suc p) a is = ap (λ (ys : List _). x ∷ ys) (set_back xs p a is)

-- under a premise that says more
pub finds_under : (A B : Type 0) → (B → A) → (o : Option Ask) (n : Machine Deferral) (old new : Outlook)
    → FindsAhead A o n old new → FindsAhead B o n old new
finds_under A B more (Some (LoadWord k)) n old new finds = λ b. finds (more b)
finds_under A B more (Some (StoreEpoch e)) n old new finds = λ b. finds (more b)
finds_under A B more _ n old new finds = finds

-- who claims a place, at such a stage
module _ {C : Type 0} (at : Stage → Bool) (Claims : C → ℕ → Type 0) (sizes : Sizes) (place : ℕ) where
  abbrev Nobody : List WorldSeat → List C → Type 0
  Nobody seats cursors = NobodyClaims at Claims sizes seats cursors place

  abbrev At : List WorldSeat → ℕ → Bool
  At seats q = at (slice_index_or seats q (free_seat sizes)).machine.stage

  -- where no seat has a collection under way, nobody has
  pub nobody_there : (seats : List WorldSeat) (cursors : List C) → ((q : ℕ) → At seats q ≡ false) → Nobody seats cursors
  nobody_there seats cursors off q cursor found own = not_both _ own.0 (off q)

  -- nobody did before a step of p, if not p itself, where nobody does after it
  pub nobody_before : (old new : List WorldSeat) (cursors : List C) (p : ℕ) (was is : C) → p < length cursors
      → ((q : ℕ) → q ≢ p → slice_index_or new q (free_seat sizes) ≡ slice_index_or old q (free_seat sizes))
      → ¬ ((At old p ≡ true) × Claims was place) → Nobody new (slice_set cursors p is)
      → Nobody old (slice_set cursors p was)
  nobody_before old new cursors p was is there others not_own none q cursor found = by_position (same_or_other q p)
    where
      by_position : (q ≡ p) ⊎ (q ≢ p) → ¬ ((At old q ≡ true) × Claims cursor place)
      by_position (inl same) =
          let its : was ≡ cursor = same_some (sym (get_set_same cursors p was there)
          ∙ ap (slice_get (slice_set cursors p was)) (sym same) ∙ found) in
          subst (λ (k : ℕ). ¬ ((At old k ≡ true) × Claims cursor place)) (sym same)
          (subst (λ (c : C). ¬ ((At old p ≡ true) × Claims c place)) its not_own)
      by_position (inr other) = λ own.
          none q cursor (get_set_other cursors p q is other ∙ sym (get_set_other cursors p q was other) ∙ found)
          (subst (λ (seat : WorldSeat). (at seat.machine.stage ≡ true) × Claims cursor place)
          (sym (others q other)) own)

  -- the seat of p is written, which wasn't at such a stage
  pub nobody_quiet : (old new : List WorldSeat) (cursors : List C) (p : ℕ) → At old p ≡ false
      → ((q : ℕ) → q ≢ p → slice_index_or new q (free_seat sizes) ≡ slice_index_or old q (free_seat sizes))
      → Nobody new cursors → Nobody old cursors
  nobody_quiet old new cursors p off others none q cursor found = by_position (same_or_other q p)
    where
      by_position : (q ≡ p) ⊎ (q ≢ p) → ¬ ((At old q ≡ true) × Claims cursor place)
      by_position (inl same) = λ own. not_both _ own.0 (ap (At old) same ∙ off)
      by_position (inr other) = λ own. none q cursor found (subst (λ (seat : WorldSeat). (at seat.machine.stage ≡ true)
          × Claims cursor place) (sym (others q other)) own)

module _ {C : Type 0} (Claims : C → ℕ → Type 0) (sizes : Sizes) where
  -- where nobody is taking bags, none is claimed
  pub none_claimed : (Claimed : ℕ → Type 0) (s : State) (cursors : List C) → s.sizes ≡ sizes
      → ClaimsKnown Claimed Claims sizes s.seats cursors → NoneTakes s → (place : ℕ) → ¬ (Claimed place)
  none_claimed Claimed s cursors same known none place =
      known place (nobody_there is_taking Claims sizes place s.seats cursors
      (λ q. ap (λ (z : Sizes). is_taking (slice_index_or s.seats q (free_seat z)).machine.stage) (sym same) ∙ none q))

  -- one participant's step
  pub claims_known : (Claimed Claimed' : ℕ → Type 0) (old new : List WorldSeat) (cursors : List C) (p : ℕ) (was is : C)
      → p < length cursors
      → ((q : ℕ) → q ≢ p → slice_index_or new q (free_seat sizes) ≡ slice_index_or old q (free_seat sizes))
      → LeavesClaims Claimed (OwnClaims (slice_index_or old p (free_seat sizes)).machine.stage (Claims was)) Claimed'
      (OwnClaims (slice_index_or new p (free_seat sizes)).machine.stage (Claims is))
      → ClaimsKnown Claimed Claims sizes old (slice_set cursors p was)
      → ClaimsKnown Claimed' Claims sizes new (slice_set cursors p is)
  claims_known Claimed Claimed' old new cursors p was is there others leaves known place none claimed =
      let before = leaves place (none p is (get_set_same cursors p is there)) claimed in
      known place
      (nobody_before is_taking Claims sizes place old new cursors p was is there others before.1 none) before.0

  -- a seat that isn't taking bags is written
  pub claims_quiet : (Claimed : ℕ → Type 0) (old new : List WorldSeat) (cursors : List C) (p : ℕ)
      → is_taking (slice_index_or old p (free_seat sizes)).machine.stage ≡ false
      → ((q : ℕ) → q ≢ p → slice_index_or new q (free_seat sizes) ≡ slice_index_or old q (free_seat sizes))
      → ClaimsKnown Claimed Claims sizes old cursors → ClaimsKnown Claimed Claims sizes new cursors
  claims_quiet Claimed old new cursors p off others known place none claimed =
      known place (nobody_quiet is_taking Claims sizes place old new cursors p off others none) claimed

  -- no further bag is claimed
  pub claims_less : (Claimed Claimed' : ℕ → Type 0) (seats : List WorldSeat) (cursors : List C)
      → ((place : ℕ) → Claimed' place → Claimed place)
      → ClaimsKnown Claimed Claims sizes seats cursors → ClaimsKnown Claimed' Claims sizes seats cursors
  claims_less Claimed Claimed' seats cursors less known place none claimed = known place none (less place claimed)

-- what stands in the list of all participants
pub ahead_at : {C : Type 0} (f : ℕ → C → ℕ) (seats : List WorldSeat) (cursors : List C) (p : ℕ) (cursor : C)
    (other : WorldSeat) → p < length seats → slice_get cursors p ≡ Some cursor
    → slice_index_or (aheads f seats cursors) p 0 ≡ f (expiry_of (slice_index_or seats p other).machine.stage) cursor
ahead_at f [] cursors p cursor other there at = absurd (omega arith)
ahead_at f (seat ∷ seats) [] zero cursor other there at = absurd (cc (at))
ahead_at f (seat ∷ seats) [] (suc p) cursor other there at = absurd (cc (at))
ahead_at f (seat ∷ seats) (c ∷ cursors) zero cursor other there at =
    ap (f (expiry_of seat.machine.stage)) (same_some at)
ahead_at f (seat ∷ seats) (c ∷ cursors) (suc p) cursor other there at =
    ahead_at f seats cursors p cursor other (omega arith) at
