-- What looks at posts tell together: a look before the seal and one after it show that each guard with a loan is over.
use Rattle.std.proofs.Common.{length, take, slice_index_or, ◌≡◌, ◌≢◌, ℕ, suc, ◌+◌, ◌*◌, ◌<◌, ◌≤◌, ◌⊎◌, List, [], ◌∷◌}
use Rattle.std.proofs.Common.{◌++◌, sym, refl, ap, ◌∙◌, subst, inl, inr}
use mathlib.Core.Bool.{Bool, true, not, ◌&&◌}
use Rattle.std.specs.Prelude.{eqb, leb}
use Rattle.std.proofs.lemmas.Bool.{and_parts, and_from, or_cases, or_left, or_right, not_from_false, eqb-true, eq-eqb}
use Rattle.std.proofs.lemmas.Bool.{ne_eqb, le-leb, leb-true, false≢true}
use Rattle.std.proofs.Math.Seq.{take-suc}
use Rattle.std.proofs.lemmas.List.{take_all}
use native.Mathlib.Omega.{arith}
use native.Mathlib.Decide.{ℕ_discrete}
use Rattle.std.proofs.Math.Decide.{dec_lt}
use mathlib.Core.Logic.{dite}
use Rattle.epoch_lend.specs.Posts.{is_among, IsAmong, posted, PostNames, logs_of}
use Rattle.epoch_lend.specs.Loans.{Loan, SeenPost, shows, is_shown, are_shown, AreShown, are_within, Within}
use Rattle.epoch_lend.specs.Loans.{was_seen, each_seen, EachSeen, is_sealed, is_past}

-- a word up to the seal, as a test and as a fact
pub sealed_test : (seal n : ℕ) → n ≤ 2 * seal → is_sealed seal n ≡ true
sealed_test seal n = le-leb n (2 * seal)

-- a word that passes the test is up to the seal
pub sealed_fact : (seal n : ℕ) → is_sealed seal n ≡ true → n ≤ 2 * seal
sealed_fact seal n = leb-true n (2 * seal)

-- a word that is 0 or past the seal, as a test and as a fact
pub past_test : (seal n : ℕ) → (n ≢ 0 → 2 * seal ≤ n) → is_past seal n ≡ true
past_test seal n past = dite (ℕ_discrete n 0)
    (λ nil. or_left (eqb n 0) (leb (2 * seal) n) (eq-eqb n 0 nil))
    (λ other. or_right (eqb n 0) (leb (2 * seal) n) (le-leb (2 * seal) n (past other)))

-- a word that passes the test, and isn't 0, is past the seal
pub past_fact : (seal n : ℕ) → is_past seal n ≡ true → n ≢ 0 → 2 * seal ≤ n
past_fact seal n past other = either_fact (or_cases (eqb n 0) (leb (2 * seal) n) past)
  where
    either_fact : (eqb n 0 ≡ true) ⊎ (leb (2 * seal) n ≡ true) → 2 * seal ≤ n
    either_fact (inl nil) = absurd (other (eqb-true n 0 nil))
    either_fact (inr late) = leb-true (2 * seal) n late

-- a look shows of a loan's guard that it is over, as a test and as a fact
pub shows_test : (s : SeenPost) (l : Loan) → l.log ≡ s.0 → s.1 ≢ posted l.epoch → shows s l ≡ true
shows_test s l here differs = and_from (eqb l.log s.0) (not (eqb s.1 (posted l.epoch))) (eq-eqb l.log s.0 here)
    (not_from_false (eqb s.1 (posted l.epoch)) (ne_eqb s.1 (posted l.epoch) differs))

-- more looks don't take away what earlier ones found
pub each_more : (passes : ℕ → Bool) (ηs : List ℕ) (s : SeenPost) (ss : List SeenPost)
    → EachSeen passes ηs ss → EachSeen passes ηs (s ∷ ss)
each_more passes [] s ss each = refl
each_more passes (η ∷ ηs) s ss each =
    let parts = and_parts (was_seen passes η ss) (each_seen passes ηs ss) each in
    and_from (was_seen passes η (s ∷ ss)) (each_seen passes ηs (s ∷ ss))
    (or_right (eqb η s.0 && passes s.1) (was_seen passes η ss) parts.0) (each_more passes ηs s ss parts.1)

-- a post was also seen with a word that passes a weaker test
was_also : (passes weaker : ℕ → Bool) (η : ℕ) (ss : List SeenPost)
    → ((n : ℕ) → passes n ≡ true → weaker n ≡ true)
    → was_seen passes η ss ≡ true → was_seen weaker η ss ≡ true
was_also passes weaker η [] also was = was
was_also passes weaker η (s ∷ ss) also was =
    cases (or_cases (eqb η s.0 && passes s.1) (was_seen passes η ss) was)
    (was_also passes weaker η ss also)
  where
    cases : ((eqb η s.0 && passes s.1) ≡ true) ⊎ (was_seen passes η ss ≡ true)
        → (was_seen passes η ss ≡ true → was_seen weaker η ss ≡ true)
        → was_seen weaker η (s ∷ ss) ≡ true
    cases (inl here) behind =
        let parts = and_parts (eqb η s.0) (passes s.1) here in
        or_left (eqb η s.0 && weaker s.1) (was_seen weaker η ss)
        (and_from (eqb η s.0) (weaker s.1) parts.0 (also s.1 parts.1))
    cases (inr later) behind = or_right (eqb η s.0 && weaker s.1) (was_seen weaker η ss) (behind later)

-- each post was also seen with a word that passes a weaker test
each_also : (passes weaker : ℕ → Bool) (ηs : List ℕ) (ss : List SeenPost)
    → ((n : ℕ) → passes n ≡ true → weaker n ≡ true) → EachSeen passes ηs ss → EachSeen weaker ηs ss
each_also passes weaker [] ss also each = refl
each_also passes weaker (η ∷ ηs) ss also each =
    let parts = and_parts (was_seen passes η ss) (each_seen passes ηs ss) each in
    and_from (was_seen weaker η ss) (each_seen weaker ηs ss)
    (was_also passes weaker η ss also parts.0) (each_also passes weaker ηs ss also parts.1)

-- a word up to one seal is up to a later one
still_sealed : (seal later n : ℕ) → seal ≤ later → is_sealed seal n ≡ true → is_sealed later n ≡ true
still_sealed seal later n after sealed =
    let below = sealed_fact seal n sealed in
    sealed_test later n (omega (arith, after, below))

-- what was sealed by one seal is so by a later one
pub later_sealed : (seal later : ℕ) (ηs : List ℕ) (ss : List SeenPost) → seal ≤ later
    → EachSeen (is_sealed seal) ηs ss → EachSeen (is_sealed later) ηs ss
later_sealed seal later ηs ss after = each_also (is_sealed seal) (is_sealed later) ηs ss
    (λ n. still_sealed seal later n after)

-- one post more
each_snoc : (passes : ℕ → Bool) (ηs : List ℕ) (η : ℕ) (ss : List SeenPost) → EachSeen passes ηs ss
    → was_seen passes η ss ≡ true → EachSeen passes (ηs ++ η ∷ []) ss
each_snoc passes [] η ss each was = and_from (was_seen passes η ss) true was refl
each_snoc passes (other ∷ ηs) η ss each was =
    let parts = and_parts (was_seen passes other ss) (each_seen passes ηs ss) each in
    and_from (was_seen passes other ss) (each_seen passes (ηs ++ η ∷ []) ss) parts.0
    (each_snoc passes ηs η ss parts.1 was)

-- the logs of one post more
logs_snoc : (ds : List PostNames) (d : PostNames) → logs_of (ds ++ d ∷ []) ≡ logs_of ds ++ d.log ∷ []
logs_snoc [] d = refl
logs_snoc (h ∷ ds) d = ap (λ (ηs : List ℕ). h.log ∷ ηs) (logs_snoc ds d)

-- a look at the post at this position adds it to those that were looked at
pub looked : (passes : ℕ → Bool) (ds : List PostNames) (i : ℕ) (d : PostNames) (word : ℕ)
    (before ss : List SeenPost)
    → i < length ds → d ≡ slice_index_or ds i d
    → passes word ≡ true → ss ≡ (d.log, word) ∷ before → EachSeen passes (logs_of (take i ds)) before
    → EachSeen passes (logs_of (take (i + 1) ds)) ss
looked passes ds i d word before ss within at holds is each =
    let next : i + 1 ≡ suc i = omega (arith) in
    let grown : take (i + 1) ds ≡ take i ds ++ d ∷ [] = ap (λ (k : ℕ). take k ds) next ∙ take-suc ds i d within
    ∙ ap (λ (e : PostNames). take i ds ++ e ∷ []) (sym at) in
    let named : logs_of (take (i + 1) ds) ≡ logs_of (take i ds) ++ d.log ∷ [] = ap logs_of grown
    ∙ logs_snoc (take i ds) d in
    let here : (eqb d.log d.log && passes word) ≡ true = and_from (eqb d.log d.log) (passes word)
    (eq-eqb d.log d.log refl) holds in
    let kept : EachSeen passes (logs_of (take i ds)) ((d.log, word) ∷ before) =
    each_more passes (logs_of (take i ds)) (d.log, word) before each in
    let told : EachSeen passes (logs_of (take i ds) ++ d.log ∷ []) ((d.log, word) ∷ before) =
    each_snoc passes (logs_of (take i ds)) d.log ((d.log, word) ∷ before) kept
    (or_left (eqb d.log d.log && passes word) (was_seen passes d.log before) here) in
    subst (λ (ks : List SeenPost). EachSeen passes (logs_of (take (i + 1) ds)) ks) (sym is)
    (subst (λ (ηs : List ℕ). EachSeen passes ηs ((d.log, word) ∷ before)) (sym named) told)

-- where all positions were looked at, so was each post
pub looked_at_all : (passes : ℕ → Bool) (ds : List PostNames) (i : ℕ) (ss : List SeenPost) → length ds ≤ i
    → EachSeen passes (logs_of (take i ds)) ss → EachSeen passes (logs_of ds) ss
looked_at_all passes ds i ss all each =
    subst (λ (es : List PostNames). EachSeen passes (logs_of es) ss) (take_all i ds all) each

-- a post that is one of those that were seen was seen
seen_of : (passes : ℕ → Bool) (η : ℕ) (ηs : List ℕ) (ss : List SeenPost) → IsAmong η ηs → EachSeen passes ηs ss
    → was_seen passes η ss ≡ true
seen_of passes η [] ss among each = absurd (false≢true among)
seen_of passes η (other ∷ ηs) ss among each = cases (or_cases (eqb η other) (is_among η ηs) among)
    (λ behind. seen_of passes η ηs ss behind (and_parts (was_seen passes other ss) (each_seen passes ηs ss) each).1)
  where
    parts : (was_seen passes other ss ≡ true) × (each_seen passes ηs ss ≡ true)
    parts = and_parts (was_seen passes other ss) (each_seen passes ηs ss) each

    cases : (eqb η other ≡ true) ⊎ (is_among η ηs ≡ true) → (is_among η ηs ≡ true → was_seen passes η ss ≡ true)
        → was_seen passes η ss ≡ true
    cases (inl same) later = subst (λ (k : ℕ). was_seen passes k ss ≡ true) (sym (eqb-true η other same)) parts.0
    cases (inr behind) later = later behind

-- a post that was seen with another word than the guard's shows that the guard is over
shown_of : (passes : ℕ → Bool) (l : Loan) (ss : List SeenPost)
    → ((n : ℕ) → passes n ≡ true → n ≢ posted l.epoch)
    → was_seen passes l.log ss ≡ true → is_shown ss l ≡ true
shown_of passes l [] differs was = was
shown_of passes l (s ∷ ss) differs was = cases (or_cases (eqb l.log s.0 && passes s.1)
    (was_seen passes l.log ss) was) (shown_of passes l ss differs)
  where
    cases : ((eqb l.log s.0 && passes s.1) ≡ true) ⊎ (was_seen passes l.log ss ≡ true)
        → (was_seen passes l.log ss ≡ true → is_shown ss l ≡ true)
        → is_shown (s ∷ ss) l ≡ true
    cases (inl here) behind =
        let parts = and_parts (eqb l.log s.0) (passes s.1) here in
        or_left (shows s l) (is_shown ss l)
        (shows_test s l (eqb-true l.log s.0 parts.0) (differs s.1 parts.1))
    cases (inr later) behind = or_right (shows s l) (is_shown ss l) (behind later)

-- a word past the seal is not that of an epoch before it
past_differs : (seal e n : ℕ) → e < seal → is_past seal n ≡ true → n ≢ posted e
past_differs seal e n early past same =
    let pinned : n ≢ 0 = λ nil. omega (arith, nil, same) in
    let late : 2 * seal ≤ n = past_fact seal n past pinned in
    omega (arith, early, late, same)

-- a word up to the seal is not that of its epoch or a later one
sealed_differs : (seal e n : ℕ) → seal ≤ e → is_sealed seal n ≡ true → n ≢ posted e
sealed_differs seal e n late sealed same =
    let below = sealed_fact seal n sealed in
    omega (arith, late, below, same)

-- a guard's epoch is before the seal, or it is not: one of the two looks shows that it is over
one_is_shown : (seal : ℕ) (ηs : List ℕ) (ss : List SeenPost) (l : Loan) → IsAmong l.log ηs
    → EachSeen (is_sealed seal) ηs ss → EachSeen (is_past seal) ηs ss → is_shown ss l ≡ true
one_is_shown seal ηs ss l of sealed past = dite (dec_lt l.epoch seal)
    (λ early. shown_of (is_past seal) l ss (λ n. past_differs seal l.epoch n early)
    (seen_of (is_past seal) l.log ηs ss of past))
    (λ late. shown_of (is_sealed seal) l ss (λ n. sealed_differs seal l.epoch n (omega (arith, late)))
    (seen_of (is_sealed seal) l.log ηs ss of sealed))

-- Each post was seen with no pin of the seal's epoch or a later one, and with no pin of an epoch before it: no guard
-- that had a loan is of an epoch that both looks found.
pub all_are_shown : (seal : ℕ) (ηs : List ℕ) (ss : List SeenPost) (ls : List Loan) → Within ηs ls
    → EachSeen (is_sealed seal) ηs ss → EachSeen (is_past seal) ηs ss → AreShown ss ls
all_are_shown seal ηs ss [] within sealed past = refl
all_are_shown seal ηs ss (l ∷ ls) within sealed past =
    let parts = and_parts (is_among l.log ηs) (are_within ηs ls) within in
    and_from (is_shown ss l) (are_shown ss ls) (one_is_shown seal ηs ss l parts.0 sealed past)
    (all_are_shown seal ηs ss ls parts.1 sealed past)

-- where each post was seen unpinned, none was seen with a pin of an epoch before the first
pub past_if_unpinned : (ηs : List ℕ) (ss : List SeenPost) → EachSeen (is_sealed 0) ηs ss → EachSeen (is_past 0) ηs ss
past_if_unpinned ηs ss = each_also (is_sealed 0) (is_past 0) ηs ss
    (λ n _. past_test 0 n (λ _. omega (arith)))
