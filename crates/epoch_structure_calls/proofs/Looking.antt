-- Passes of a look-up that only reads, one after the other.
use Rattle.std.proofs.Common.{◌≡◌, ℕ, suc, List, [], ◌∷◌, ◌++◌, None, refl, sym, subst}
use Rattle.epoch_laws.specs.declared.heap.access.Access.{Access}
use Rattle.epoch_laws.specs.declared.step.Reply.{Reply}
use Rattle.epoch_structure_calls.specs.Paths.{ReadsOn}
use Rattle.epoch_structure_laws.specs.declared.map.plan.Aim.TheVariants.{ToGet}
use Rattle.epoch_structure_laws.specs.declared.map.plan.MapAnswer.{MapAnswer}
use Rattle.epoch_structure_laws.specs.declared.map.plan.MapAnswer.TheVariants.{MovesOut}
use Rattle.epoch_structure_laws.specs.declared.map.plan.MapPhase.{MapPhase}
use Rattle.epoch_structure_laws.specs.declared.map.plan.MapPhase.TheVariants.{LoadingFirst, Answering}
use Rattle.epoch_structure_laws.specs.declared.map.plan.MapWork.TheVariants.{Get}
use Rattle.epoch_structure_laws.specs.MapProgram.{map_deed_of, again, start_map_work}
use Rattle.epoch_structure_calls.proofs.Strides.{reads_on, reads_so}
use Rattle.epoch_structure_calls.specs.MapCalls.{Attempts, GivesUp, Looks, get_tells, stop_of}
use Rattle.epoch_structure_calls.specs.MapCalls.Stop.{Marked}

-- one more attempt stops at a marked node
pub gives_up_further : {L : Type 0} (does : L → Access → Reply → L → Type 0) (b key : ℕ) (lefts : List ℕ)
    (m left k : ℕ) (l mid l' : L) → GivesUp does b key lefts m l left mid
    → Attempts does b key left mid (Marked k) l' → GivesUp does b key (lefts ++ k ∷ []) m l k l'
gives_up_further does b key [] m left k l mid l' gives attempt =
    let at_first = subst (λ (n : ℕ). Attempts does b key n mid (Marked k) l') gives.0 attempt in
    let on_links = subst (λ z. Attempts does b key m z (Marked k) l') gives.1 at_first in
    (l', on_links, (refl, refl))
gives_up_further does b key (next ∷ lefts) m left k l mid l' gives attempt =
    (gives.0, gives.1, gives_up_further does b key lefts next left k gives.0 mid l' gives.2 attempt)

module _ {L : Type 0} (does : L → Access → Reply → L → Type 0) (b m left : ℕ) (mid l : L)
    (before : ReadsOn does (map_deed_of 0) (start_map_work (Get b 1 m)) mid (again (ToGet b 1) left) l) where
  -- an attempt goes on by one more pass
  pub passes_on : (rest : ℕ) (last : MapPhase) (l' : L) → left ≡ suc rest
      → ReadsOn does (map_deed_of 0) (LoadingFirst (ToGet b 1) rest) l last l'
      → ReadsOn does (map_deed_of 0) (start_map_work (Get b 1 m)) mid last l'
  passes_on rest last l' is reads =
      reads_on does (start_map_work (Get b 1 m)) (LoadingFirst (ToGet b 1) rest) last mid l l'
      (subst (λ (k : ℕ). ReadsOn does (map_deed_of 0) (start_map_work (Get b 1 m)) mid (again (ToGet b 1) k) l) is
      before) reads

  -- and stops at a marked node
  pub stops_at_mark : (lefts : List ℕ) (moves rest k : ℕ) (last : MapPhase) (links l' : L)
      → GivesUp does b 1 lefts moves links m mid → left ≡ suc rest
      → ReadsOn does (map_deed_of 0) (LoadingFirst (ToGet b 1) rest) l last l' → stop_of last ≡ Marked k
      → GivesUp does b 1 (lefts ++ k ∷ []) moves links k l'
  stops_at_mark lefts moves rest k last links l' gives is reads stops =
      gives_up_further does b 1 lefts moves m k links mid l' gives
      (record { last = last; reads = passes_on rest last l' is reads; stops = stops })

  -- or answers
  pub looks_so : (lefts : List ℕ) (moves rest : ℕ) (answer : MapAnswer) (last : MapPhase) (links l' : L)
      → GivesUp does b 1 lefts moves links m mid → left ≡ suc rest
      → ReadsOn does (map_deed_of 0) (LoadingFirst (ToGet b 1) rest) l last l' → last ≡ Answering answer
      → Looks does b 1 moves links (get_tells answer None) l'
  looks_so lefts moves rest answer last links l' gives is reads at = record {
    lefts = lefts;
    left = m;
    between = mid;
    gives_up = gives;
    answer = answer;
    attempts = record {
      last = Answering answer;
      reads = passes_on rest (Answering answer) l' is
          (reads_so does (LoadingFirst (ToGet b 1) rest) last (Answering answer) l l' (sym at) reads);
      stops = refl;
    };
    tells = refl;
  }

  -- or has no move left
  pub looks_no_more : (lefts : List ℕ) (moves : ℕ) (links : L) → GivesUp does b 1 lefts moves links m mid → left ≡ 0
      → Looks does b 1 moves links (get_tells MovesOut None) l
  looks_no_more lefts moves links gives none = record {
    lefts = lefts;
    left = m;
    between = mid;
    gives_up = gives;
    answer = MovesOut;
    attempts = record {
      last = Answering MovesOut;
      reads =
          subst (λ (k : ℕ). ReadsOn does (map_deed_of 0) (start_map_work (Get b 1 m)) mid (again (ToGet b 1) k) l) none
          before;
      stops = refl;
    };
    tells = refl;
  }
