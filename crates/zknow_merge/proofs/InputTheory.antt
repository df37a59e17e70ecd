-- Inputs that grew.
use Rattle.std.proofs.Common.{◌≡◌, ◌<◌, ℕ, zero, suc, true, false, Bool, List, [], ◌++◌, length, refl, sym, ap, subst, ◌∙◌, ⊎_elim, arith, append_assoc, get_or-set_same, get_or-set_other}
use Rattle.std.proofs.lemmas.List.{append-nil, length-set}
use Rattle.std.proofs.lemmas.Bool.{cases_eq}
use Rattle.zknow.specs.declared.fact.Fact.{Fact}
use Rattle.zknow.specs.declared.saved.loading.LoadError.{LoadError}
use Rattle.zknow_merge.specs.Inputs.{Input, IsFileOf, no_input, fed, at_end, input_at, changed_at, fresh}
use Rattle.zknow_merge.specs.Sources.{IsFaultOf}
use Rattle.zknow_merge.specs.Merges.{IsFactAhead, AreMerged}
use Rattle.zknow_merge.proofs.SourceTheory.{fed_open, fed_ended}

-- the second is the first after more came of it
pub record IsGrown (i j : Input) : Type 0 where
  pub more : List ℕ
  pub octets : j.octets ≡ i.octets ++ more
  pub file : (file : List ℕ) → IsFileOf j file → IsFileOf i file

pub same_grown : (i : Input) → IsGrown i i
same_grown i = record { more = []; octets = sym (append-nil i.octets); file = λ file of. of }

fed_by : (piece : List ℕ) (i : Input) (b : Bool) → i.ended ≡ b → IsGrown i (fed piece i)
fed_by piece i true is = subst (IsGrown i) (sym (fed_ended piece i is)) (same_grown i)
fed_by piece i false is =
    let grown : IsGrown i (record i { octets = i.octets ++ piece }) = record {
      more = piece;
      octets = refl;
      file = λ file of. record {
        more = piece ++ of.more;
        cut = of.cut ∙ append_assoc i.octets piece of.more;
        whole = λ ended. absurd cc;
      };
    } in
    subst (IsGrown i) (sym (fed_open piece i is)) grown

pub fed_grown : (piece : List ℕ) (i : Input) → IsGrown i (fed piece i)
fed_grown piece i = fed_by piece i i.ended refl

pub end_grown : (i : Input) → IsGrown i (at_end i)
end_grown i = record {
  more = [];
  octets = sym (append-nil i.octets);
  file = λ file of. record { more = of.more; cut = of.cut; whole = λ ended. of.whole refl };
}

pub fault_grown : (i j : Input) (e : LoadError) → IsGrown i j → IsFaultOf i e → IsFaultOf j e
fault_grown i j e grown h = record { file = λ file of. h.file file (grown.file file of); some = h.some }

module _ (inputs : List Input) (k : ℕ) (lt : k < length inputs) (change : Input → Input) where
  pub changed_there : input_at (changed_at k change inputs) k ≡ change (input_at inputs k)
  changed_there = get_or-set_same inputs k (change (input_at inputs k)) no_input lt

  pub changed_else : (j : ℕ) → (j ≡ k → ⊥) → input_at (changed_at k change inputs) j ≡ input_at inputs j
  changed_else j other = get_or-set_other inputs k j (change (input_at inputs k)) no_input other

  pub changed_length : length (changed_at k change inputs) ≡ length inputs
  changed_length = length-set inputs k (change (input_at inputs k))

  module _ (grown : IsGrown (input_at inputs k) (change (input_at inputs k))) where
    pub grown_at : (j : ℕ) → IsGrown (input_at inputs j) (input_at (changed_at k change inputs) j)
    grown_at j = ⊎_elim
        (λ same. subst (λ (n : ℕ). IsGrown (input_at inputs n) (input_at (changed_at k change inputs) n)) (sym same)
        (subst (IsGrown (input_at inputs k)) (sym changed_there) grown))
        (λ other. subst (IsGrown (input_at inputs j)) (sym (changed_else j other)) (same_grown (input_at inputs j)))
        (cases_eq j k)

    ahead_grown : (f : Fact) → IsFactAhead inputs f → IsFactAhead (changed_at k change inputs) f
    ahead_grown f h =
        let g = grown_at h.number in
        record {
          number = h.number;
          among = omega (arith, h.among, changed_length);
          front = h.front;
          rest = h.rest ++ g.more;
          cut = g.octets ∙ ap (λ (l : List ℕ). l ++ g.more) h.cut ∙ append_assoc h.front h.rest g.more;
          names = h.names;
          facts = h.facts;
          saved = h.saved;
          has = h.has;
        }

    pub merged_grown : (merged : List Fact) → AreMerged inputs merged → AreMerged (changed_at k change inputs) merged
    merged_grown merged m = record { ordered = m.ordered; savable = m.savable; ahead = λ f here. ahead_grown f (m.ahead f here) }

pub fresh_length : (n : ℕ) → length (fresh n) ≡ n
fresh_length zero = refl
fresh_length (suc n) = ap suc (fresh_length n)

pub fresh_at : (n k : ℕ) → input_at (fresh n) k ≡ no_input
fresh_at zero k = refl
fresh_at (suc n) zero = refl
fresh_at (suc n) (suc k) = fresh_at n k
