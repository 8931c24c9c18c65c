-- Where each registration is looked at alone: each participant that has registered has left since.
use Rattle.std.proofs.Common.{◌≡◌, ℕ, List, sym, ◌∙◌, subst, get_or}
use Rattle.epoch_laws.specs.declared.step.Reply.TheVariants.{Registered}
use Rattle.epoch_laws.specs.declared.step.Entry.{Entry}
use Rattle.epoch_laws.specs.Grace.{IsReplyAt}
use Rattle.epoch_laws.proofs.PlacesRead.{read_stands}

-- what holds of the participant that is read to register at k holds of each that registers there
pub of_each_registered : (log : List Entry) (k : ℕ) (default : Entry) (who : ℕ) (P : ℕ → Type 0)
    → (get_or log k default).reply ≡ Registered who → P who
    → (p : ℕ) → IsReplyAt log k (Registered p) → P p
of_each_registered log k default who P is holds p at =
    let read : Registered who ≡ Registered p = sym is ∙ read_stands log k default _ at in
    let same : who ≡ p = cc in
    subst P same holds

-- where no registration is read, none stands
pub where_none_registered : (log : List Entry) (k : ℕ) (default : Entry) (P : ℕ → Type 0)
    → ((p : ℕ) → (get_or log k default).reply ≡ Registered p → ⊥)
    → (p : ℕ) → IsReplyAt log k (Registered p) → P p
where_none_registered log k default P none p at = absurd (none p (read_stands log k default _ at))
