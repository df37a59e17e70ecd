-- A choice is read as it is written, and built as it is written.
use Rattle.std.proofs.Common.{◌≡◌, List, Option, Some, None, Bool, true, false, cond, refl, sym, ap, subst, ◌∙◌, ◌⊎◌, inl, inr}
use Rattle.zber.specs.Elements.{Element, tag_of}
use Rattle.zber.specs.Tags.{among, apart}
use Rattle.zasn_tables.specs.Reading.{option_map}
use Rattle.zasn_tables.specs.Place.{Place}
use Rattle.zasn_tables.specs.Choice.{Choice, finally, either, Pick, picked, ValueWrites, choice_meaning, choice_spelling, choice_tags, distinct}
use Rattle.zber.proofs.Tests.{both_true}
use Rattle.zasn_tables.proofs.Readings.{apart-among, among-left, among-right}

abbrev some : {A : Type 0} → A → Option A
some x = Some x

some_is : {A : Type 0} (x y : A) → some x ≡ some y → x ≡ y
some_is x y e = cc

not_both : (b : Bool) → b ≡ true → b ≡ false → ⊥
not_both b e f = cc

pub choice_some : {C : Type 0} (c : Choice C) → (x : Pick c) × (n : Element) × ValueWrites c x n
choice_some (finally p wrap) = p.some
choice_some (either p wrap more) = let s = p.some in (inl s.0, s.1, s.2)

pub choice_begins : {C : Type 0} (c : Choice C) (x : Pick c) (n : Element) → ValueWrites c x n → among (tag_of n) (choice_tags c) ≡ true
choice_begins (finally p wrap) x n h = p.begins x n h
choice_begins (either p wrap more) (inl x) n h = among-left p.tags (choice_tags more) (tag_of n) (p.begins x n h)
choice_begins (either p wrap more) (inr y) n h = among-right p.tags (choice_tags more) (tag_of n) (choice_begins more y n h)

here : {A C : Type 0} (p : Place A) (wrap : A → C) (d : C) (n : Element) (o : Option A) → among (tag_of n) p.tags ≡ true → p.meaning n ≡ o → option_map wrap o ≡ Some d → (x : A) × (wrap x ≡ d) × p.writes x n
here p wrap d n (Some x) b e f = (x, some_is (wrap x) d f, p.reads x n b e)
here p wrap d n None b e f = absurd cc

last_turn : {A C : Type 0} (p : Place A) (wrap : A → C) (d : C) (n : Element) (b : Bool) → among (tag_of n) p.tags ≡ b → cond b (option_map wrap (p.meaning n)) None ≡ Some d → (x : A) × (wrap x ≡ d) × p.writes x n
last_turn p wrap d n true e f = here p wrap d n (p.meaning n) e refl f
last_turn p wrap d n false e f = absurd cc

pub choice_reads : {C : Type 0} (c : Choice C) (d : C) (n : Element) → choice_meaning c n ≡ Some d → (x : Pick c) × (picked c x ≡ d) × ValueWrites c x n
choice_reads (finally p wrap) d n e = last_turn p wrap d n (among (tag_of n) p.tags) refl e
choice_reads (either {A = A} p wrap more) d n e = turn (λ f. choice_reads more d n f) (among (tag_of n) p.tags) refl e
  where
    turn : (choice_meaning more n ≡ Some d → (x : Pick more) × (picked more x ≡ d) × ValueWrites more x n) → (b : Bool) → among (tag_of n) p.tags ≡ b → cond b (option_map wrap (p.meaning n)) (choice_meaning more n) ≡ Some d
        → (x : A ⊎ Pick more) × (picked (either p wrap more) x ≡ d) × ValueWrites (either p wrap more) x n
    turn later true b f = let h = here p wrap d n (p.meaning n) b refl f in (inl h.0, h.1, h.2)
    turn later false b f = let h = later f in (inr h.0, h.1, h.2)

elsewhere : {A : Type 0} (p : Place A) (vs : List _) (n : Element) (b : Bool) → apart p.tags vs ≡ true → among (tag_of n) p.tags ≡ b → among (tag_of n) vs ≡ true → among (tag_of n) p.tags ≡ false
elsewhere p vs n false new e h = e
elsewhere p vs n true new e h = absurd (not_both (among (tag_of n) vs) h (apart-among p.tags vs (tag_of n) new e))

pub choice_finds : {C : Type 0} (c : Choice C) (x : Pick c) (n : Element) → distinct c ≡ true → ValueWrites c x n → choice_meaning c n ≡ Some (picked c x)
choice_finds (finally p wrap) x n k h = rw (p.begins x n h, p.finds x n h) refl
choice_finds (either p wrap more) (inl x) n k h = rw (p.begins x n h, p.finds x n h) refl
choice_finds (either p wrap more) (inr y) n k h =
    let b = both_true (apart p.tags (choice_tags more)) (distinct more) k in
    rw (elsewhere p (choice_tags more) n (among (tag_of n) p.tags) b.0 refl (choice_begins more y n h)) (choice_finds more y n b.1 h)

pub choice_makes : {C : Type 0} (c : Choice C) (x : Pick c) (n : Element) → choice_spelling c x ≡ Some n → ValueWrites c x n
choice_makes (finally p wrap) x n e = p.makes x n e
choice_makes (either p wrap more) (inl x) n e = p.makes x n e
choice_makes (either p wrap more) (inr y) n e = choice_makes more y n e

pub choice_none : {C : Type 0} (c : Choice C) (x : Pick c) → choice_spelling c x ≡ None → (n : Element) → ValueWrites c x n → ⊥
choice_none (finally p wrap) x e n h = p.none x e n h
choice_none (either p wrap more) (inl x) e n h = p.none x e n h
choice_none (either p wrap more) (inr y) e n h = choice_none more y e n h

-- the same of the value
module _ {C : Type 0} (c : Choice C) (pick : C → Pick c) (same : (d : C) → picked c (pick d) ≡ d) (back : (x : Pick c) → pick (picked c x) ≡ x) where
  moved : (x y : Pick c) (n : Element) → x ≡ y → ValueWrites c x n → ValueWrites c y n
  moved x y n e h = subst (λ (z : Pick c). ValueWrites c z n) e h

  pub pick_some : (d : C) × (n : Element) × ValueWrites c (pick d) n
  pick_some = let s = choice_some c in (picked c s.0, s.1, moved s.0 (pick (picked c s.0)) s.1 (sym (back s.0)) s.2)

  pub pick_reads : (d : C) (n : Element) → choice_meaning c n ≡ Some d → ValueWrites c (pick d) n
  pick_reads d n e = let h = choice_reads c d n e in moved h.0 (pick d) n (sym (back h.0) ∙ ap pick h.1) h.2

  pub pick_finds : distinct c ≡ true → (d : C) (n : Element) → ValueWrites c (pick d) n → choice_meaning c n ≡ Some d
  pick_finds k d n h = choice_finds c (pick d) n k h ∙ ap (λ (w : C). some w) (same d)
