-- What an answer does at a stage that didn't ask for it, and when a bag is in hand.
use Rattle.std.proofs.Common.{◌≡◌, ℕ, Bool, true, false, not, List, [], ◌∷◌, length, refl, ap, sym, subst, ◌∙◌}
use Rattle.epoch_machine.specs.declared.machine.Answer.TheVariants.{Word}
use Rattle.epoch_machine.specs.declared.machine.Stage.{Stage}
use Rattle.epoch_machine.specs.declared.machine.Stage.TheVariants.{Scan, Take, Calling}
use Rattle.epoch_machine.specs.Machine.{Machine, StageFits, is_empty, rest, hears, gives, is_calling}

word_unheard : {J : Type 0} (m : Machine J) (s : Stage) (w : ℕ)
    → ((e k : ℕ) → s ≡ Scan e k → ⊥) → m ≡ hears m s (Word w)
word_unheard m (Scan e k) w other = absurd (other e k refl)
word_unheard m _ w other = refl

ungiven : {J : Type 0} (m : Machine J) (s : Stage) (jobs : List J)
    → ((x k : ℕ) → s ≡ Calling x k → ⊥) → m ≡ gives m s jobs
ungiven m (Calling x k) jobs other = absurd (other x k refl)
ungiven m _ jobs other = refl

-- The machine n is that of the fields m, as they stand in a function of the type.

-- a word that no scan asked for changes nothing
pub word_unasked : {J : Type 0} (m n : Machine J) (w : ℕ)
    → m ≡ n → ((e k : ℕ) → m.stage ≡ Scan e k → ⊥) → n ≡ hears n n.stage (Word w)
word_unasked m n w is other =
    subst (λ (o : Machine _). o ≡ hears o o.stage (Word w)) is (word_unheard m m.stage w other)

-- a job that is given at a stage that calls none changes nothing
pub nothing_given : {J : Type 0} (m n : Machine J)
    → m ≡ n → ((x k : ℕ) → m.stage ≡ Calling x k → ⊥) → n ≡ gives n n.stage (rest n.hand)
nothing_given m n is other =
    subst (λ (o : Machine _). o ≡ gives o o.stage (rest o.hand)) is (ungiven m m.stage (rest m.hand) other)

-- what fits the one fits the other
pub fits_within : {J : Type 0} (m n : Machine J) (s : Stage) → m ≡ n → StageFits n.sizes (length n.held) s
    → StageFits m.sizes (length m.held) s
fits_within m n s is fits = subst (λ (o : Machine _). StageFits o.sizes (length o.held) s) (sym is) fits

-- a bag is in hand exactly while its jobs are called
pub hand_after : {J : Type 0} (left : List J) (s : Stage) (none : Bool)
    → none ≡ is_empty left → is_calling s ≡ not none → is_empty left ≡ not (is_calling s)
hand_after left s true test calls = sym test ∙ ap not (sym calls)
hand_after left s false test calls = sym test ∙ ap not (sym calls)

-- while bags are looked for the hand has none
pub none_in_hand : {J : Type 0} (hand : List J) (s : Stage) (x k : ℕ)
    → s ≡ Take x k → is_empty hand ≡ not (is_calling s) → hand ≡ []
none_in_hand [] s x k at empty = refl
none_in_hand (job ∷ jobs) s x k at empty = absurd (cc (empty, ap (λ (t : Stage). not (is_calling t)) at))

-- a hand that had none has none after a stage that calls nothing
pub still_none : (none : Bool) (s after : Stage) (x k : ℕ) → none ≡ not (is_calling s) → s ≡ Take x k
    → is_calling after ≡ false → none ≡ not (is_calling after)
still_none none s after x k held at calls = held ∙ ap (λ (t : Stage). not (is_calling t)) at ∙ sym (ap not calls)
