-- What a machine asks from the beginning of a collection on follows the table, if it does so from after the collection
-- on.
use Rattle.std.proofs.Common.{◌≡◌, ◌≢◌, ℕ, zero, suc, ◌+◌, ◌-◌, ◌*◌, ◌/◌, ◌%◌, ◌^◌, ◌<◌, ◌==◌, Bool, true, false, List}
use Rattle.std.proofs.Common.{[], ◌∷◌, ◌⊎◌, inl, inr, refl, ap, sym, sym, subst, if◌then◌else◌, arith}
use Rattle.std.proofs.lemmas.Bool.Decides.{nat_tests}
use Rattle.epoch_bags.specs.declared.queue.TakeStep.TheVariants.{Again as TakeAgain, Empty, Got}
use Rattle.epoch_machine.specs.declared.machine.Stage.{Stage}
use Rattle.epoch_machine.specs.declared.machine.Stage.TheVariants.{LoadScan, Scan, Advance, Take, Calling}
use Rattle.epoch_machine.specs.declared.machine.Ask.TheVariants.{LoadWord, StoreEpoch, TakeBag, CallJob}
use Rattle.epoch_machine.specs.declared.machine.Answer.TheVariants.{Word}
use Rattle.epoch_machine.specs.Machine.{Machine, IsSized, with_stage, after_collect, after_job, scanned, holds_up}
use Rattle.epoch_machine.specs.Asks.{Log, Reply, Heard, TakeStepped, JobGiven, Exchange, IsReply, told, Asked}
use Rattle.epoch_machine.specs.Asks.{asks_more, Part, Choose, AsksWord, IsPinnedElsewhere, AsksAdvance, AsksScan}
use Rattle.epoch_machine.specs.Asks.{AsksTakeSteps, AsksCalls, AsksBags, AsksCollection}
use Rattle.epoch_machine.proofs.Exchanges.{LogsAre, more_asked, begins, loads, stores}

-- CHOICES

-- a part that is chosen by the test of the machine
pub choice : {J : Type 0} (m : Machine J) (test : Bool) (s t : Stage) (holds fails : Part J)
    → LogsAre (with_stage m s) holds
    → LogsAre (with_stage m t) fails
    → LogsAre (with_stage m (if test then s else t)) (Choose test holds fails)
choice m true s t holds fails first second = first
choice m false s t holds fails first second = second

-- a machine whose test is known
pub known : {J : Type 0} (m : Machine J) (test answer : Bool) (s t : Stage) (part : Part J)
    → test ≡ answer
    → LogsAre (with_stage m (if answer then s else t)) part
    → LogsAre (with_stage m (if test then s else t)) part
known m test answer s t part is logs =
    subst (λ (b : Bool). LogsAre (with_stage m (if b then s else t)) part) (sym is) logs

-- two numbers that are the same pass the machine's test for that
pub same_number : (a b : ℕ) → a ≡ b → (a == b) ≡ true
same_number a b is = grind (arith, nat_tests)

-- two numbers that differ fail the machine's test for being the same
pub other_number : (a b : ℕ) → a ≢ b → (a == b) ≡ false
other_number a b is = grind (arith, nat_tests)

-- THE SCAN

-- the test of a word means what it says
held_up : (e w : ℕ) → holds_up e w ≡ true → IsPinnedElsewhere e w
held_up e w is =
    let odd : w % 2 ≡ 1 = grind (arith, nat_tests) in
    let other : w ≢ 2 * e + 1 = grind (arith, nat_tests) in
    (w / 2, omega arith, λ same. other (omega arith))

not_held_up : (e w : ℕ) → holds_up e w ≡ false → ¬ IsPinnedElsewhere e w
not_held_up e w is = λ (a, at, other).
    let odd : w % 2 ≡ 1 = omega arith in
    let differs : w ≢ 2 * e + 1 = λ same. other (omega arith) in
    let held : holds_up e w ≡ true = grind (arith, nat_tests) in
    cc

word_decides : {J : Type 0} (m n : Machine J) (e w : ℕ) (test : Bool) (s : Stage) (elsewhere behind : Part J)
    (more : Bool) (log : Log J)
    → LogsAre (with_stage m (Take e 0)) elsewhere
    → LogsAre (with_stage m s) behind
    → asks_more n ≡ more
    → holds_up e w ≡ test
    → Asked (with_stage m (if test then Take e 0 else s)) log n
    → (IsPinnedElsewhere e w × elsewhere more log) ⊎ ((¬ IsPinnedElsewhere e w) × behind more log)
word_decides m n e w true s elsewhere behind more log stops goes at is run =
    inl (held_up e w is, stops more log n run at)
word_decides m n e w false s elsewhere behind more log stops goes at is run =
    inr (not_held_up e w is, goes more log n run at)

-- the stage after a word that doesn't end the scan
abbrev behind_word : ℕ → ℕ → ℕ → Stage
behind_word positions e k = if k + 1 == positions then scanned e else Scan e (k + 1)

word_told : {J : Type 0} (m n : Machine J) (e k : ℕ) (elsewhere behind : Part J) (more : Bool) (log : Log J)
    → LogsAre (with_stage m (Take e 0)) elsewhere
    → LogsAre (with_stage m (behind_word m.sizes.positions e k)) behind
    → asks_more n ≡ more
    → (reply : Reply J) → IsReply (LoadWord k) m.hand reply → Asked (told (with_stage m (Scan e k)) reply) log n
    → AsksWord e k elsewhere behind more (record { ask = LoadWord k; reply = reply } ∷ log)
word_told m n e k elsewhere behind more log stops goes at (Heard (Word w)) fits run = (
  w,
  refl,
  word_decides m n e w (holds_up e w)
      (behind_word m.sizes.positions e k) elsewhere behind more log stops goes at refl run,
)
word_told m n e k elsewhere behind more log stops goes at _ fits run = absurd fits

looks : {J : Type 0} (m : Machine J) (e k : ℕ) (elsewhere behind : Part J)
    → LogsAre (with_stage m (Take e 0)) elsewhere
    → LogsAre (with_stage m (behind_word m.sizes.positions e k)) behind
    → LogsAre (with_stage m (Scan e k)) (AsksWord e k elsewhere behind)
looks m e k elsewhere behind stops goes more [] n is at =
    more_asked (with_stage m (Scan e k)) n (LoadWord k) more refl is at
looks m e k elsewhere behind stops goes more (x ∷ log) n run at =
    begins (with_stage m (Scan e k)) n (LoadWord k) (λ y. AsksWord e k elsewhere behind more (y ∷ log)) x log refl
    (word_told m n e k elsewhere behind more log stops goes at) run

-- whatever the epoch is for which bags are taken after the scan
abbrev TakesFollow : {J : Type 0} → Machine J → (ℕ → Part J) → Type 0
TakesFollow m behind = (x : ℕ) → LogsAre (with_stage m (Take x 0)) (behind x)

advances : {J : Type 0} (m : Machine J) (e : ℕ) (behind : ℕ → Part J)
    → TakesFollow m behind
    → LogsAre (with_stage m (scanned e)) (AsksAdvance e behind)
advances m e behind next =
    choice m (e == 2 ^ 63 - 1) (Take e 0) (Advance e) _ _ (next e)
    (stores (with_stage m (Advance e)) (StoreEpoch (e + 1)) _ tt refl (next (e + 1)))

-- the scan of the words that are left, of which there is one at least
scans_on : {J : Type 0} (m : Machine J) (e : ℕ) (behind : ℕ → Part J)
    → TakesFollow m behind
    → (left k : ℕ) → k + suc left ≡ m.sizes.positions
    → LogsAre (with_stage m (Scan e k)) (AsksScan e k (suc left) behind)
scans_on m e behind next zero k last =
    looks m e k _ _ (next e)
    (known m (k + 1 == m.sizes.positions) true (scanned e) (Scan e (k + 1)) _ (same_number _ _ (omega arith))
    (advances m e behind next))
scans_on m e behind next (suc left) k rest =
    looks m e k _ _ (next e)
    (known m (k + 1 == m.sizes.positions) false (scanned e) (Scan e (k + 1)) _ (other_number _ _ (omega arith))
    (scans_on m e behind next left (k + 1) (omega arith)))

scans : {J : Type 0} (m : Machine J) (e : ℕ) (behind : ℕ → Part J)
    → TakesFollow m behind
    → (words : ℕ) → 0 < words → words ≡ m.sizes.positions
    → LogsAre (with_stage m (Scan e 0)) (AsksScan e 0 words behind)
scans m e behind next zero some is = absurd (omega arith)
scans m e behind next (suc left) some is = scans_on m e behind next left 0 (omega arith)

-- THE BAGS

-- the machine that has this in hand
abbrev with_hand : {J : Type 0} → Machine J → Stage → List J → Machine J
with_hand m s jobs = record m { stage = s; hand = jobs }

-- the machine whose collection is over
abbrev pub collected : {J : Type 0} → Machine J → List J → Machine J
collected m hand = record m { stage = after_collect m.action m.held; hand = hand }

take_told : {J : Type 0} (m n : Machine J) (x k : ℕ) (hand : List J) (empty : Part J) (got : List J → Part J)
    (more : Bool) (log : Log J)
    → (Asked (with_hand m (Take x k) hand) log n → AsksTakeSteps x empty got more log)
    → LogsAre (collected m hand) empty
    → ((jobs : List J) → LogsAre (with_hand m (after_job m x k jobs) jobs) (got jobs))
    → asks_more n ≡ more
    → (reply : Reply J) → IsReply (TakeBag x) hand reply → Asked (told (with_hand m (Take x k) hand) reply) log n
    → AsksTakeSteps x empty got more (record { ask = TakeBag x; reply = reply } ∷ log)
take_told m n x k hand empty got more log again none bag at (TakeStepped TakeAgain jobs) fits run =
    (jobs, inl (refl, again run))
take_told m n x k hand empty got more log again none bag at (TakeStepped Empty jobs) fits run =
    (jobs, inr (inl (refl, none more log n run at)))
take_told m n x k hand empty got more log again none bag at (TakeStepped Got jobs) fits run =
    (jobs, inr (inr (refl, bag jobs more log n run at)))
take_told m n x k hand empty got more log again none bag at _ fits run = absurd fits

take_steps : {J : Type 0} (m : Machine J) (x k : ℕ) (hand : List J) (empty : Part J) (got : List J → Part J)
    → LogsAre (collected m hand) empty
    → ((jobs : List J) → LogsAre (with_hand m (after_job m x k jobs) jobs) (got jobs))
    → LogsAre (with_hand m (Take x k) hand) (AsksTakeSteps x empty got)
take_steps m x k hand empty got none bag more [] n is at =
    more_asked (with_hand m (Take x k) hand) n (TakeBag x) more refl is at
take_steps m x k hand empty got none bag more (y ∷ log) n run at =
    begins (with_hand m (Take x k) hand) n (TakeBag x) (λ z. AsksTakeSteps x empty got more (z ∷ log)) y log refl
    (take_told m n x k hand empty got more log
    (λ again. take_steps m x k hand empty got none bag more log n again at) none bag at) run

call_told : {J : Type 0} (m n : Machine J) (x k : ℕ) (job : J) (jobs : List J) (behind : Part J)
    (more : Bool) (log : Log J)
    → (Asked (with_hand m (after_job m x k jobs) jobs) log n → AsksCalls jobs behind more log)
    → (reply : Reply J) → IsReply CallJob (job ∷ jobs) reply
    → Asked (told (with_hand m (Calling x k) (job ∷ jobs)) reply) log n
    → AsksCalls (job ∷ jobs) behind more (record { ask = CallJob; reply = reply } ∷ log)
call_told {J} m n x k job jobs behind more log next (JobGiven given) fits run =
    let same : given ≡ job = cc fits in
    (ap (λ (j : J). let y : Exchange J = record { ask = CallJob; reply = JobGiven j } in y) same, next run)
call_told m n x k job jobs behind more log next _ fits run = absurd fits

-- the stage after a bag's last job
abbrev behind_bag : {J : Type 0} → Machine J → ℕ → ℕ → Stage
behind_bag m x k = if k + 1 == m.sizes.collect_bags then after_collect m.action m.held else Take x (k + 1)

calls : {J : Type 0} (m : Machine J) (x k : ℕ) (behind : Part J)
    → LogsAre (with_hand m (behind_bag m x k) []) behind
    → (jobs : List J) → LogsAre (with_hand m (after_job m x k jobs) jobs) (AsksCalls jobs behind)
calls m x k behind next [] more log n run at = next more log n run at
calls m x k behind next (job ∷ jobs) more [] n is at =
    more_asked (with_hand m (Calling x k) (job ∷ jobs)) n CallJob more refl is at
calls m x k behind next (job ∷ jobs) more (y ∷ log) n run at =
    begins (with_hand m (Calling x k) (job ∷ jobs)) n CallJob
    (λ z. AsksCalls (job ∷ jobs) behind more (z ∷ log)) y log refl
    (call_told m n x k job jobs behind more log (λ left. calls m x k behind next jobs more log n left at)) run

-- whatever is in hand when the collection is over
abbrev pub CollectedFollow : {J : Type 0} → Machine J → Part J → Type 0
CollectedFollow {J} m behind = (hand : List J) → LogsAre (collected m hand) behind

-- the bags that may still be taken, of which there is one at least
takes_on : {J : Type 0} (m : Machine J) (x : ℕ) (behind : Part J)
    → CollectedFollow m behind
    → (left k : ℕ) → k + suc left ≡ m.sizes.collect_bags
    → (hand : List J) → LogsAre (with_hand m (Take x k) hand) (AsksBags x (suc left) behind)
takes_on m x behind next zero k last hand =
    take_steps m x k hand _ _ (next hand) (calls m x k _
    (known (with_hand m (Take x k) []) (k + 1 == m.sizes.collect_bags) true
    (after_collect m.action m.held) (Take x (k + 1)) _
    (same_number _ _ (omega arith)) (next [])))
takes_on m x behind next (suc left) k rest hand =
    take_steps m x k hand _ _ (next hand) (calls m x k _
    (known (with_hand m (Take x k) []) (k + 1 == m.sizes.collect_bags) false
    (after_collect m.action m.held) (Take x (k + 1)) _
    (other_number _ _ (omega arith)) (takes_on m x behind next left (k + 1) (omega arith) [])))

takes : {J : Type 0} (m : Machine J) (x : ℕ) (behind : Part J)
    → CollectedFollow m behind
    → (bags : ℕ) → 0 < bags → bags ≡ m.sizes.collect_bags
    → LogsAre (with_stage m (Take x 0)) (AsksBags x bags behind)
takes m x behind next zero some is = absurd (omega arith)
takes m x behind next (suc left) some is = takes_on m x behind next left 0 (omega arith) m.hand

-- THE COLLECTION

pub collects : {J : Type 0} (m : Machine J) (behind : Part J)
    → IsSized m.sizes
    → CollectedFollow m behind
    → LogsAre (with_stage m LoadScan) (AsksCollection m.sizes behind)
collects m behind sized next =
    loads (with_stage m LoadScan) _ refl (λ e.
    scans m e _
    (λ x. takes m x behind next m.sizes.collect_bags sized.collect_bags.0 refl) m.sizes.positions sized.positions refl)
