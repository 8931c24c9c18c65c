-- What each kind of step on the participants' table does to the view of the seat that takes it.
use Rattle.std.specs.Prelude.{◌≡◌, ◌≢◌, ℕ, ◌+◌, ◌*◌, ◌≤◌, List, [], ◌∷◌, ◌++◌, Option, Some, None}
use Rattle.atomic_table.specs.Table.{Me, Step}
use Rattle.epoch_tables.specs.declared.table.view.ParticipantView.{ParticipantView}
use Rattle.epoch_tables.specs.Table.{word_at, seat_word, IsWord, LetsPass}

-- VIEWS

abbrev pub without_position : ℕ → List (Option ℕ) → List ℕ → List ℕ → List ℕ → ParticipantView
without_position seen looked found stored advanced = record {
  position = None;
  published = None;
  first_read = None;
  seen = seen;
  scan = None;
  looked = looked;
  found = found;
  stored = stored;
  advanced = advanced;
}

-- the view before any step
abbrev pub spent : ParticipantView
spent = without_position 0 [] [] [] []

-- The first reading after a publish is kept.
abbrev pub first_after : Option ℕ → Option ℕ → ℕ → Option ℕ
first_after None first epoch = first
first_after (Some published) None epoch = Some epoch
first_after (Some published) (Some first) epoch = Some first

-- Each load of the epoch by a pinned seat begins a scan.
abbrev pub scan_after : Option ℕ → ℕ → Option (ℕ × ℕ)
scan_after None epoch = None
scan_after (Some published) epoch = Some (epoch, 0)

-- it loaded the epoch
abbrev pub after_epoch : ParticipantView → ℕ → ParticipantView
after_epoch v epoch = record v {
  first_read = first_after v.published v.first_read epoch;
  seen = epoch;
  scan = scan_after v.published epoch;
  looked = v.looked ++ None ∷ [];
  found = v.found ++ 2 * epoch ∷ [];
}

-- it stored its own word once, pinned or not
abbrev pub after_own : ParticipantView → Option ℕ → ParticipantView
after_own v pinned = record v {
  published = pinned;
  first_read = None;
  scan = None;
  stored = v.stored ++ seat_word pinned ∷ [];
}

-- it stored 0 as its own word, and gave its position up
abbrev pub after_free : ParticipantView → ParticipantView
after_free v = without_position v.seen v.looked v.found (v.stored ++ 0 ∷ []) v.advanced

-- it found this word at a position, which holds its scan up, or which it doesn't get
abbrev pub after_word : ParticipantView → ℕ → ℕ → ParticipantView
after_word v position word = record v { looked = v.looked ++ Some position ∷ []; found = v.found ++ word ∷ [] }

-- it loaded the word of the position that its scan passed
abbrev pub after_pass : ParticipantView → ℕ → ℕ → ℕ → ParticipantView
after_pass v epoch passed word = record v {
  scan = Some (epoch, passed + 1);
  looked = v.looked ++ Some passed ∷ [];
  found = v.found ++ word ∷ [];
}

-- it stored the epoch
abbrev pub after_advance : ParticipantView → ℕ → ParticipantView
after_advance v epoch = record v { seen = epoch; scan = None; advanced = v.advanced ++ epoch ∷ [] }

-- it claimed a position
abbrev pub after_claim : ParticipantView → ℕ → ℕ → ParticipantView
after_claim v claimed word = record v {
  position = Some claimed;
  published = None;
  first_read = None;
  scan = None;
  looked = v.looked ++ Some claimed ∷ [];
  found = v.found ++ word ∷ [];
}

-- WHAT EACH STEP TELLS
-- of the step, the seat before, the word found (at a store, the word stored), and the seat after

module _ {S : Type 0} where
  abbrev pub Sits : Step S → Me S ParticipantView → ℕ → Me S ParticipantView → Type 0
  Sits step before word after = (after.1 ≡ [])
      × ((epoch : ℕ) × (word ≡ 2 * epoch) × (after.0 ≡ without_position epoch (None ∷ []) (2 * epoch ∷ []) [] []))

  abbrev pub LoadsEpoch : Step S → Me S ParticipantView → ℕ → Me S ParticipantView → Type 0
  LoadsEpoch step before word after = (after.1 ≡ before.1)
      × ((epoch : ℕ) × (word ≡ 2 * epoch) × (before.0.seen ≤ epoch) × (after.0 ≡ after_epoch before.0 epoch))

  abbrev pub Publishes : Step S → Me S ParticipantView → ℕ → Me S ParticipantView → Type 0
  Publishes step before word after = (after.1 ≡ before.1)
      × ((epoch : ℕ) → word ≡ 2 * epoch + 1 → after.0 ≡ after_own before.0 (Some epoch))

  abbrev pub Unpins : Step S → Me S ParticipantView → ℕ → Me S ParticipantView → Type 0
  Unpins step before word after = (after.1 ≡ before.1) × (after.0 ≡ after_own before.0 None)

  abbrev pub Frees : Step S → Me S ParticipantView → ℕ → Me S ParticipantView → Type 0
  Frees step before word after = (after.1 ≡ before.1) × (after.0 ≡ after_free before.0)

  abbrev pub LoadsWord : Step S → Me S ParticipantView → ℕ → Me S ParticipantView → Type 0
  LoadsWord step before word after = (after.1 ≡ before.1) × IsWord word
      × ((epoch passed : ℕ) → before.0.scan ≡ Some (epoch, passed) → (step.word ≡ word_at passed)
      × (LetsPass epoch word → after.0 ≡ after_pass before.0 epoch passed word)
      × (¬ LetsPass epoch word → after.0 ≡ after_word before.0 passed word))

  abbrev pub StoresEpoch : Step S → Me S ParticipantView → ℕ → Me S ParticipantView → Type 0
  StoresEpoch step before word after = (after.1 ≡ before.1)
      × ((epoch : ℕ) → word ≡ 2 * epoch → (before.0.seen ≤ epoch) × (after.0 ≡ after_advance before.0 epoch))

  abbrev pub ClaimsPosition : Step S → Me S ParticipantView → ℕ → Me S ParticipantView → Type 0
  ClaimsPosition step before word after = (after.1 ≡ before.1) × IsWord word
      × ((position : ℕ) × (step.word ≡ word_at position)
      × (word ≡ 0 → after.0 ≡ after_claim before.0 position word)
      × (word ≢ 0 → after.0 ≡ after_word before.0 position word))
