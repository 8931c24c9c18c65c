-- Whether a guard is a participant's own, by numbers.
use Rattle.std.proofs.Common.{rules, ◌≡◌, ◌<◌, ℕ, IsTrue, Some, nat_eq, ap, sym, ◌∙◌}
use Rattle.epoch_handles.specs.declared.local.Local.{Local}
use Rattle.epoch_handles.specs.declared.guard.Guard.{Guard}
use Rattle.epoch_handles.specs.declared.paused.Paused.{Paused}
use Rattle.epoch_handles.specs.Handles.{Owns, IsPausedBy}

same_number : (one other : ℕ) → IsTrue (nat_eq one other) → one ≡ other
same_number one other same = search rules

told_same : (one other : ℕ) → one ≡ other → IsTrue (nat_eq one other)
told_same one other same = search rules

some_same : (one other : ℕ) → Some one ≡ Some other → one ≡ other
some_same one other same = search rules

is_out : (guards held : ℕ) → guards ≡ held → (guards ≡ 0 → ⊥) → 0 < held
is_out guards held same some = search rules

-- a guard of the participant's position and of its collector's number is its own, while some guard is out
pub owned_at : {T W : Type 0} (h : Local T W) (guard : Guard T W) (position guards : ℕ)
    → guard.position ≡ Some position → guard.collector.now.id ≡ h.collector.now.id
    → guards ≡ h.machine.guards → (guards ≡ 0 → ⊥) → IsTrue (nat_eq position h.position) → Owns h guard
owned_at h guard position guards at of counted some same = record {
  position = at ∙ ap Some (same_number position h.position same);
  collector = of;
  out = is_out guards h.machine.guards counted some;
}

-- and a guard that is its own has its position
pub position_owned : {T W : Type 0} (h : Local T W) (guard : Guard T W) (position : ℕ)
    → guard.position ≡ Some position → Owns h guard → IsTrue (nat_eq position h.position)
position_owned h guard position at owns =
    told_same position h.position (some_same position h.position (sym at ∙ owns.position))

-- the same of a guard that is paused
pub paused_at : {T W : Type 0} (h : Local T W) (paused : Paused T W) (position : ℕ)
    → paused.guard.position ≡ Some position → paused.guard.collector.now.id ≡ h.collector.now.id
    → IsTrue (nat_eq position h.position) → IsPausedBy h paused
paused_at h paused position at of same = record {
  position = at ∙ ap Some (same_number position h.position same);
  collector = of;
}

-- and a paused guard that is its own has its position
pub position_paused : {T W : Type 0} (h : Local T W) (paused : Paused T W) (position : ℕ)
    → paused.guard.position ≡ Some position → IsPausedBy h paused → IsTrue (nat_eq position h.position)
position_paused h paused position at is =
    told_same position h.position (some_same position h.position (sym at ∙ is.position))
