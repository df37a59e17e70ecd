-- What a schedule does to its agenda.
use Rattle.std.proofs.Common.{◌≡◌, inl, inr, ℕ, zero, suc, ◌+◌, ◌-◌, ◌<◌, ◌≤◌, Bool, true, false, cond, List, [], ◌∷◌, ◌++◌, length, take, drop, map, refl, sym, ap, subst, ◌∙◌, arith, append_assoc, append-nil}
use Rattle.std.proofs.lemmas.Bool.{cases_lt}
use Rattle.std.specs.Prelude.{◌&&◌, ◌||◌, not, nat_lt, slice_index_or, slice_set}
use Rattle.std.specs.List.{concat, remove, range_with_len}
use Rattle.zplan.specs.declared.range.Range.{Range}
use Rattle.zplan.specs.declared.span.Span.{Span}
use Rattle.zplan.specs.declared.entry.Entry.{Entry}
use Rattle.zplan.specs.declared.uncut.Uncut.{Uncut}
use Rattle.zplan.specs.declared.uncut.Cut.{Cut}
use Rattle.zplan.specs.Positions.{IsIn, IsFrom, AreAscending, IsWanted, first_of, up_to}
use Rattle.zplan.specs.Ranges.{positions, positions_of, places, span_of, range_of, clip, IsApart, IsBounded, AreNonempty, AreInOrder, ArePresentRanges, AreWanted}
use Rattle.zplan.specs.Agenda.{SameAgenda, IsFirst, AfterNoteSent, AfterNoteAnswered, put_list, without_start, whole_agenda}
use Rattle.zplan.specs.Schedules.{lists_of, due_of, waiting_of, has_due, agenda_of, uncut_positions, uncut_lists, IsAskableList, AreAskableLists, IsSound, IsFirstCut, after_cut, IsDueAt, IsWaitingAt}
use Rattle.zplan.proofs.Cuts.{in_left, in_right, some_deal, concat_deal, places_ascend}
use Rattle.zplan.proofs.Ends.{from_in, ascends_left, ascends_right, ascends_apart}
use Rattle.zplan.proofs.Parts.{used_none}
use Rattle.zplan.proofs.Clips.{clip_apart, clip_bounded, clip_positions}
use Rattle.zplan.proofs.Among.{AllBefore, AllAfter, put_between, without_between, before_some, after_some, after_append, first_there, concat_append, wanted_without, wanted_drop}
use Rattle.zplan.proofs.Entries.{AllSent, split_at, set_at, lists_append, due_append, waiting_append, due_one, due_none, waiting_one, waiting_none, sent_none, none_due, has_append, still_has, has_one, all_listed, listed_all, due_split, waiting_split, begun_some, some_listed, due_among, waiting_among}

-- ---- the same positions, as ranges of a caller and as they are kept

pub places_spans : (ranges : List Range) → places (map span_of ranges) ≡ positions ranges
places_spans [] = refl
places_spans (r ∷ rs) = ap (λ l. positions_of r ++ l) (places_spans rs)

pub positions_ranges : (list : List Span) → positions (map range_of list) ≡ places list
positions_ranges [] = refl
positions_ranges (s ∷ ss) = ap (λ l. range_with_len s.start s.n ++ l) (positions_ranges ss)

length_ranges : (list : List Span) → length (map range_of list) ≡ length list
length_ranges [] = refl
length_ranges (s ∷ ss) = ap suc (length_ranges ss)

spans_ranges : (list : List Span) → map span_of (map range_of list) ≡ list
spans_ranges [] = refl
spans_ranges (s ∷ ss) = ap (λ l. s ∷ l) (spans_ranges ss)

-- ---- a list that is due can be asked

range_in : (n s x : ℕ) → s ≤ x → x < s + n → IsIn x (range_with_len s n)
range_in zero s x lo hi = absurd (omega arith)
range_in (suc n) s x lo hi = elim (cases_lt s x) [
  | inl lt ↦ inr (range_in n (s + 1) x (omega arith) (omega arith))
  | inr ge ↦ inl (let e : x ≡ s = omega arith in e)
]

from_all : (low : ℕ) (ps : List ℕ) → ((x : ℕ) → IsIn x ps → low ≤ x) → IsFrom low ps
from_all low [] h = tt
from_all low (p ∷ ps) h = (h p (inl refl), from_all low ps (λ x i. h x (inr i)))

in_order : (low : ℕ) (list : List Span) → AreNonempty list → IsFrom low (places list) → AreAscending (places list) → AreInOrder low (map range_of list)
in_order low [] have from up = tt
in_order low (r ∷ rs) have from up =
    let some = have.0 in
    let first : IsIn r.start (range_with_len r.start r.n) = range_in r.n r.start r.start (omega arith) (omega (arith, some)) in
    let end : IsIn (r.start + r.n - 1) (range_with_len r.start r.n) = range_in r.n r.start (r.start + r.n - 1) (omega (arith, some)) (omega (arith, some)) in
    let after : IsFrom (r.start + r.n) (places rs) = from_all (r.start + r.n) (places rs)
    (λ x i. let b = ascends_apart (range_with_len r.start r.n) (places rs) (r.start + r.n - 1) x up end i in omega (arith, b, some)) in (
      from_in low (range_with_len r.start r.n ++ places rs) r.start from (in_left r.start (range_with_len r.start r.n) (places rs) first),
      some,
      in_order (r.start + r.n) rs have.1 after (ascends_right (range_with_len r.start r.n) (places rs) up),
    )

pub can_be_asked : (three : Bool) (list : List Span) → IsAskableList three list → IsWanted (places list) → ArePresentRanges (map range_of list)
can_be_asked three [] h w = absurd h.begun
can_be_asked three (s ∷ ss) h w = record {
  some = λ e. absurd (let z : length (map range_of (s ∷ ss)) ≡ 0 = ap length e in omega (arith, z));
  order = in_order 1 (s ∷ ss) h.begun w.0 w.1;
  bounded = subst IsBounded (sym (spans_ranges (s ∷ ss))) h.bounded;
}

-- ---- the agenda of parts

wanted_right : (xs ys : List ℕ) → IsWanted (xs ++ ys) → IsWanted ys
wanted_right [] ys h = h
wanted_right (x ∷ xs) ys h = wanted_right xs ys (h.0.1, h.1.1)

wanted_left : (xs ys : List ℕ) → IsWanted (xs ++ ys) → IsWanted xs
wanted_left xs ys h = (left 1 xs ys h.0, ascends_left xs ys h.1)
  where
    left : (low : ℕ) (ps qs : List ℕ) → IsFrom low (ps ++ qs) → IsFrom low ps
    left low [] qs g = tt
    left low (p ∷ ps) qs g = (g.0, left low ps qs g.1)

-- what stands before an entry, the entry, and what stands after it
pub record Stands (three : Bool) (xs : List Entry) (l : List ℕ) (ys : List Entry) (u : Uncut) : Type 0 where
  pub whole : IsWanted (concat (lists_of xs) ++ (l ++ (concat (lists_of ys) ++ uncut_positions u)))
  pub some : 0 < length l
  pub before : AreAskableLists three xs
  pub after : AreAskableLists three ys

stands_of : (xs ys : List Entry) (x : Entry) (u : Uncut) → IsSound (xs ++ x ∷ ys) u → Stands u.three xs (places x.list.items) ys u
stands_of xs ys x u h =
    let l = all_listed u.three xs (x ∷ ys) h.listed in
    record {
      whole = subst IsWanted
          (ap (λ z. concat z ++ uncut_positions u) (lists_append xs (x ∷ ys)) ∙ ap (λ z. z ++ uncut_positions u) (concat_append (lists_of xs) (lists_of (x ∷ ys)))
          ∙ append_assoc (concat (lists_of xs)) (places x.list.items ++ concat (lists_of ys)) (uncut_positions u)
          ∙ ap (λ z. concat (lists_of xs) ++ z) (append_assoc (places x.list.items) (concat (lists_of ys)) (uncut_positions u)))
          h.all_wanted;
      some = begun_some x.list.items l.1.0.begun;
      before = l.0;
      after = l.1.1;
    }

first_in : (l : List ℕ) → 0 < length l → IsIn (first_of l) l
first_in [] h = absurd (omega arith)
first_in (p ∷ ps) h = inl refl

lists_before : (three : Bool) (xs ys : List Entry) (l : List ℕ) (u : Uncut) → Stands three xs l ys u → (m : List ℕ) → IsIn m (lists_of xs) → first_of m < first_of l
lists_before three xs ys l u s m i =
    ascends_apart (concat (lists_of xs)) (l ++ (concat (lists_of ys) ++ uncut_positions u)) (first_of m) (first_of l) s.whole.1
    (first_there m (lists_of xs) (some_listed three xs s.before) i) (in_left (first_of l) l (concat (lists_of ys) ++ uncut_positions u) (first_in l s.some))

lists_after : (three : Bool) (xs ys : List Entry) (l : List ℕ) (u : Uncut) → Stands three xs l ys u → (m : List ℕ) → IsIn m (lists_of ys) → first_of l < first_of m
lists_after three xs ys l u s m i =
    ascends_apart l (concat (lists_of ys) ++ uncut_positions u) (first_of l) (first_of m) (ascends_right (concat (lists_of xs)) (l ++ (concat (lists_of ys) ++ uncut_positions u)) s.whole.1)
    (first_in l s.some) (in_left (first_of m) (concat (lists_of ys)) (uncut_positions u) (first_there m (lists_of ys) (some_listed three ys s.after) i))

uncut_after : (three : Bool) (xs ys : List Entry) (l : List ℕ) (u : Uncut) → Stands three xs l ys u → (m : List ℕ) → IsIn m (uncut_lists u) → first_of l < first_of m
uncut_after three xs ys l u s m i =
    ascends_apart l (concat (lists_of ys) ++ uncut_positions u) (first_of l) (first_of m) (ascends_right (concat (lists_of xs)) (l ++ (concat (lists_of ys) ++ uncut_positions u)) s.whole.1)
    (first_in l s.some)
    (in_right (first_of m) (concat (lists_of ys)) (uncut_positions u)
    (subst (IsIn (first_of m)) (concat_deal u.three (u.step - 1) (u.room - 1) (uncut_positions u))
    (first_there m (uncut_lists u) (some_deal u.three (u.step - 1) (u.room - 1) (uncut_positions u)) i)))

-- what waits, around the list
waiting_around : (three : Bool) (xs ys : List Entry) (l : List ℕ) (u : Uncut) → Stands three xs l ys u → AllBefore (first_of l) (waiting_of xs) × AllAfter (first_of l) (waiting_of ys)
waiting_around three xs ys l u s = (
  before_some (first_of l) (waiting_of xs) (λ m i. lists_before three xs ys l u s m (waiting_among xs m i)),
  after_some (first_of l) (waiting_of ys) (λ m i. lists_after three xs ys l u s m (waiting_among ys m i)),
)

-- and what is due
due_around : (three : Bool) (xs ys : List Entry) (l : List ℕ) (u : Uncut) → Stands three xs l ys u → AllBefore (first_of l) (due_of xs) × AllAfter (first_of l) (due_of ys ++ uncut_lists u)
due_around three xs ys l u s = (
  before_some (first_of l) (due_of xs) (λ m i. lists_before three xs ys l u s m (due_among xs m i)),
  after_append (first_of l) (due_of ys) (uncut_lists u)
      (after_some (first_of l) (due_of ys) (λ m i. lists_after three xs ys l u s m (due_among ys m i)))
      (after_some (first_of l) (uncut_lists u) (λ m i. uncut_after three xs ys l u s m i)),
)

due_around_is : (xs ys : List Entry) (x : Entry) (u : Uncut) → x.sent ≡ false → due_of (xs ++ x ∷ ys) ++ uncut_lists u ≡ due_of xs ++ places x.list.items ∷ (due_of ys ++ uncut_lists u)
due_around_is xs ys x u f =
    ap (λ z. z ++ uncut_lists u) (due_append xs (x ∷ ys) ∙ ap (λ z. due_of xs ++ z) (due_one x ys f)) ∙ append_assoc (due_of xs) (places x.list.items ∷ due_of ys) (uncut_lists u)

due_without_is : (xs ys : List Entry) (x : Entry) (u : Uncut) → x.sent ≡ true → due_of (xs ++ x ∷ ys) ++ uncut_lists u ≡ due_of xs ++ (due_of ys ++ uncut_lists u)
due_without_is xs ys x u t =
    ap (λ z. z ++ uncut_lists u) (due_append xs (x ∷ ys) ∙ ap (λ z. due_of xs ++ z) (due_none x ys t)) ∙ append_assoc (due_of xs) (due_of ys) (uncut_lists u)

due_left_is : (xs ys : List Entry) (u : Uncut) → due_of (xs ++ ys) ++ uncut_lists u ≡ due_of xs ++ (due_of ys ++ uncut_lists u)
due_left_is xs ys u = ap (λ z. z ++ uncut_lists u) (due_append xs ys) ∙ append_assoc (due_of xs) (due_of ys) (uncut_lists u)

-- ---- sent

sent_parts : (xs ys : List Entry) (x y : Entry) (u : Uncut) → IsSound (xs ++ x ∷ ys) u → AllSent xs → x.sent ≡ false → y.sent ≡ true → y.list.items ≡ x.list.items
    → AfterNoteSent (agenda_of (xs ++ x ∷ ys) u) (agenda_of (xs ++ y ∷ ys) u)
sent_parts xs ys x y u h all f t e =
    let l : List ℕ = places x.list.items in
    let s = stands_of xs ys x u h in
    let a = waiting_around u.three xs ys l u s in
    let none = sent_none xs all in
    record {
      list = l;
      due = due_around_is xs ys x u f ∙ ap (λ z. z ++ l ∷ (due_of ys ++ uncut_lists u)) none
          ∙ ap (λ z. l ∷ z) (sym (due_without_is xs ys y u t ∙ ap (λ z. z ++ (due_of ys ++ uncut_lists u)) none));
      three = refl;
      waiting = waiting_append xs (y ∷ ys) ∙ ap (λ z. waiting_of xs ++ z) (waiting_one y ys t) ∙ ap (λ z. waiting_of xs ++ places z ∷ waiting_of ys) e
          ∙ sym (put_between l (waiting_of xs) (waiting_of ys) a.0 a.1)
          ∙ ap (put_list l) (sym (waiting_append xs (x ∷ ys) ∙ ap (λ z. waiting_of xs ++ z) (waiting_none x ys f)));
    }

same_lists : (xs ys : List Entry) (x y : Entry) → y.list.items ≡ x.list.items → lists_of (xs ++ y ∷ ys) ≡ lists_of (xs ++ x ∷ ys)
same_lists [] ys x y e = ap (λ z. places z ∷ lists_of ys) e
same_lists (z ∷ xs) ys x y e = ap (λ w. places z.list.items ∷ w) (same_lists xs ys x y e)

same_listed : (three : Bool) (xs ys : List Entry) (x y : Entry) → y.list.items ≡ x.list.items → AreAskableLists three (xs ++ x ∷ ys) → AreAskableLists three (xs ++ y ∷ ys)
same_listed three [] ys x y e h = (subst (IsAskableList three) (sym e) h.0, h.1)
same_listed three (z ∷ xs) ys x y e h = (h.0, same_listed three xs ys x y e h.1)

sound_same : (xs ys : List Entry) (x y : Entry) (u : Uncut) → y.list.items ≡ x.list.items → IsSound (xs ++ x ∷ ys) u → IsSound (xs ++ y ∷ ys) u
sound_same xs ys x y u e h = record {
  uncut = h.uncut;
  listed = same_listed u.three xs ys x y e h.listed;
  all_wanted = subst (λ z. IsWanted (concat z ++ uncut_positions u)) (sym (same_lists xs ys x y e)) h.all_wanted;
}

module _ (es : List Entry) (u : Uncut) (at : ℕ) (x : Entry) (is : x ≡ slice_index_or es at x) where
  split : at < length es → es ≡ take at es ++ x ∷ drop (suc at) es
  split lt = split_at es at x lt is

  pub sound_sent : (y : Entry) → IsSound es u → IsDueAt es at → y.sent ≡ true → y.list.items ≡ x.list.items → IsSound (slice_set es at y) u
  sound_sent y h d t e =
      let r = due_split es at x d is in
      subst (λ z. IsSound z u) (sym (set_at es at y r.0)) (sound_same (take at es) (drop (suc at) es) x y u e (subst (λ z. IsSound z u) (split r.0) h))

  pub sent_at : (y : Entry) → IsSound es u → IsDueAt es at → y.sent ≡ true → y.list.items ≡ x.list.items → AfterNoteSent (agenda_of es u) (agenda_of (slice_set es at y) u)
  sent_at y h d t e =
      let r = due_split es at x d is in
      subst (λ z. AfterNoteSent (agenda_of z u) (agenda_of (slice_set es at y) u)) (sym (split r.0))
      (subst (λ z. AfterNoteSent (agenda_of (take at es ++ x ∷ drop (suc at) es) u) (agenda_of z u)) (sym (set_at es at y r.0))
      (sent_parts (take at es) (drop (suc at) es) x y u (subst (λ z. IsSound z u) (split r.0) h) r.1 r.2 t e))

pub due_lt : (es : List Entry) (at : ℕ) → IsDueAt es at → at < length es
due_lt [] at h = absurd h
due_lt (e ∷ es) zero h = omega arith
due_lt (e ∷ es) (suc at) h = let lt = due_lt es at h.1 in omega (arith, lt)

pub waiting_lt : (first : ℕ) (es : List Entry) (at : ℕ) → IsWaitingAt first es at → at < length es
waiting_lt first [] at h = absurd h
waiting_lt first (e ∷ es) zero h = omega arith
waiting_lt first (e ∷ es) (suc at) h = let lt = waiting_lt first es at h in omega (arith, lt)

has_at : (es : List Entry) (at : ℕ) → IsDueAt es at → has_due es ≡ true
has_at [] at h = absurd h
has_at (e ∷ es) zero h = ap (λ b. not b || has_due es) h
has_at (e ∷ es) (suc at) h = ap (λ b. not b || has_due es) h.0 ∙ has_at es at h.1

-- ---- what stands first

list_wanted : (xs ys : List Entry) (x : Entry) (u : Uncut) → IsSound (xs ++ x ∷ ys) u → IsWanted (places x.list.items)
list_wanted xs ys x u h =
    let s = stands_of xs ys x u h in
    wanted_left (places x.list.items) (concat (lists_of ys) ++ uncut_positions u)
    (wanted_right (concat (lists_of xs)) (places x.list.items ++ (concat (lists_of ys) ++ uncut_positions u)) s.whole)

pub first_at : (es : List Entry) (u : Uncut) (at : ℕ) (x : Entry) → x ≡ slice_index_or es at x → IsSound es u → IsDueAt es at
    → (ranges : List Range) → ranges ≡ map range_of x.list.items → IsFirst (agenda_of es u) ranges
first_at es u at x is h d ranges e =
    let r = due_split es at x d is in
    let f = split_at es at x r.0 is in
    let xs : List Entry = take at es in let ys : List Entry = drop (suc at) es in
    let g : IsSound (xs ++ x ∷ ys) u = subst (λ z. IsSound z u) f h in
    let p : positions ranges ≡ places x.list.items = ap positions e ∙ positions_ranges x.list.items in
    record {
      others = due_of ys ++ uncut_lists u;
      due = ap (λ z. due_of z ++ uncut_lists u) f ∙ due_around_is xs ys x u r.2 ∙ ap (λ z. z ++ places x.list.items ∷ (due_of ys ++ uncut_lists u)) (sent_none xs r.1)
          ∙ ap (λ z. z ∷ (due_of ys ++ uncut_lists u)) (sym p);
      ready = has_at es at d;
      single = λ two. ap length e ∙ length_ranges x.list.items ∙ (all_listed u.three xs (x ∷ ys) g.listed).1.0.single two;
      asked = subst ArePresentRanges (sym e) (can_be_asked u.three x.list.items (all_listed u.three xs (x ∷ ys) g.listed).1.0 (list_wanted xs ys x u g));
      gaps = subst (IsApart 1) (sym (ap (map span_of) e ∙ spans_ranges x.list.items)) (all_listed u.three xs (x ∷ ys) g.listed).1.0.gaps;
    }

-- ---- a list is cut off

lists_last : (es : List Entry) (e : Entry) → concat (lists_of (es ++ e ∷ [])) ≡ concat (lists_of es) ++ places e.list.items
lists_last es e =
    ap concat (lists_append es (e ∷ [])) ∙ concat_append (lists_of es) (places e.list.items ∷ []) ∙ ap (λ z. concat (lists_of es) ++ z) (append-nil (places e.list.items))

module _ (es : List Entry) (u : Uncut) (cut : Cut) (e : Entry) (is : e.list.items ≡ cut.list.items) (due : e.sent ≡ false) (c : IsFirstCut u cut) where
  pub pushed_sound : IsSound es u → IsSound (es ++ e ∷ []) (after_cut u cut.place cut.room)
  pushed_sound h = record {
    uncut = c.rest;
    listed = listed_all u.three es (e ∷ []) h.listed (subst (IsAskableList u.three) (sym is) c.listed, tt);
    all_wanted = subst IsWanted
        (ap (λ z. concat (lists_of es) ++ z) (c.comes ∙ ap (λ z. places z ++ uncut_positions (after_cut u cut.place cut.room)) (sym is))
        ∙ sym (append_assoc (concat (lists_of es)) (places e.list.items) (uncut_positions (after_cut u cut.place cut.room)))
        ∙ ap (λ z. z ++ uncut_positions (after_cut u cut.place cut.room)) (sym (lists_last es e)))
        h.all_wanted;
  }

  pub pushed_same : SameAgenda (agenda_of es u) (agenda_of (es ++ e ∷ []) (after_cut u cut.place cut.room))
  pushed_same = record {
    due = ap (λ z. z ++ uncut_lists (after_cut u cut.place cut.room)) (due_append es (e ∷ []) ∙ ap (λ z. due_of es ++ z) (due_one e [] due))
        ∙ append_assoc (due_of es) (places e.list.items ∷ []) (uncut_lists (after_cut u cut.place cut.room))
        ∙ ap (λ z. due_of es ++ (places z ∷ uncut_lists (after_cut u cut.place cut.room))) is
        ∙ ap (λ z. due_of es ++ z) (sym c.first);
    three = refl;
    waiting = waiting_append es (e ∷ []) ∙ ap (λ z. waiting_of es ++ z) (waiting_none e [] due) ∙ append-nil (waiting_of es);
  }

  pub pushed_first : IsSound es u → has_due es ≡ false → (ranges : List Range) → ranges ≡ map range_of cut.list.items
      → IsFirst (agenda_of (es ++ e ∷ []) (after_cut u cut.place cut.room)) ranges
  pushed_first h none ranges f =
      let p : positions ranges ≡ places cut.list.items = ap positions f ∙ positions_ranges cut.list.items in
      let w : IsWanted (places cut.list.items) =
      wanted_left (places cut.list.items) (uncut_positions (after_cut u cut.place cut.room))
      (wanted_right (concat (lists_of es)) (places cut.list.items ++ uncut_positions (after_cut u cut.place cut.room)) (subst (λ z. IsWanted (concat (lists_of es) ++ z)) c.comes h.all_wanted)) in
      record {
        others = uncut_lists (after_cut u cut.place cut.room);
        due = pushed_same.due ∙ ap (λ z. z ++ uncut_lists u) (none_due es none) ∙ c.first ∙ ap (λ z. z ∷ uncut_lists (after_cut u cut.place cut.room)) (sym p);
        ready = has_append es e due;
        single = λ two. ap length f ∙ length_ranges cut.list.items ∙ c.listed.single two;
        asked = subst ArePresentRanges (sym f) (can_be_asked u.three cut.list.items c.listed w);
        gaps = subst (IsApart 1) (sym (ap (map span_of) f ∙ spans_ranges cut.list.items)) c.listed.gaps;
      }

pub none_first : (es : List Entry) (u : Uncut) → has_due es ≡ false → uncut_lists u ≡ [] → due_of es ++ uncut_lists u ≡ []
none_first es u none e = ap (λ z. z ++ uncut_lists u) (none_due es none) ∙ e

-- ---- answered

module _ (es : List Entry) (u : Uncut) (first at : ℕ) (x : Entry) (is : x ≡ slice_index_or es at x) (h : IsSound es u) (w : IsWaitingAt first es at) where
  lt : at < length es
  lt = waiting_lt first es at w

  parts : (x.sent ≡ true) × (first_of (places x.list.items) ≡ first)
  parts = let r = waiting_split es first at x w is in (r.1, r.2)

  sound : IsSound (take at es ++ x ∷ drop (suc at) es) u
  sound = subst (λ z. IsSound z u) (split_at es at x lt is) h

  stood : Stands u.three (take at es) (places x.list.items) (drop (suc at) es) u
  stood = stands_of (take at es) (drop (suc at) es) x u sound

  waited : waiting_of es ≡ waiting_of (take at es) ++ places x.list.items ∷ waiting_of (drop (suc at) es)
  waited = ap waiting_of (split_at es at x lt is) ∙ waiting_append (take at es) (x ∷ drop (suc at) es) ∙ ap (λ z. waiting_of (take at es) ++ z) (waiting_one x (drop (suc at) es) parts.0)

  among : IsIn (places x.list.items) (waiting_of es)
  among = subst (IsIn (places x.list.items)) (sym waited)
      (in_right (places x.list.items) (waiting_of (take at es)) (places x.list.items ∷ waiting_of (drop (suc at) es)) (inl refl))

  gone : without_start first (waiting_of es) ≡ waiting_of (take at es) ++ waiting_of (drop (suc at) es)
  gone =
      let a = waiting_around u.three (take at es) (drop (suc at) es) (places x.list.items) u stood in
      ap (λ p. without_start p (waiting_of es)) (sym parts.1) ∙ ap (without_start (first_of (places x.list.items))) waited
      ∙ without_between (places x.list.items) (waiting_of (take at es)) (waiting_of (drop (suc at) es)) a.0 a.1

  were_due : due_of es ++ uncut_lists u ≡ due_of (take at es) ++ (due_of (drop (suc at) es) ++ uncut_lists u)
  were_due = ap (λ z. due_of z ++ uncut_lists u) (split_at es at x lt is) ∙ due_without_is (take at es) (drop (suc at) es) x u parts.0

  -- nothing is left
  pub gone_sound : (new : List Entry) → new ≡ take at es ++ drop (suc at) es → IsSound new u
  gone_sound new e = subst (λ z. IsSound z u) (sym e) (record {
    uncut = h.uncut;
    listed = listed_all u.three (take at es) (drop (suc at) es) stood.before stood.after;
    all_wanted = subst IsWanted
        (sym (ap (λ z. concat z ++ uncut_positions u) (lists_append (take at es) (drop (suc at) es))
        ∙ ap (λ z. z ++ uncut_positions u) (concat_append (lists_of (take at es)) (lists_of (drop (suc at) es)))
        ∙ append_assoc (concat (lists_of (take at es))) (concat (lists_of (drop (suc at) es))) (uncut_positions u)))
        (wanted_without (concat (lists_of (take at es))) (places x.list.items) (concat (lists_of (drop (suc at) es)) ++ uncut_positions u) stood.whole);
  })

  pub gone_answered : (k : ℕ) (new : List Entry) → new ≡ take at es ++ drop (suc at) es → (nat_lt 0 k && nat_lt k (length (places x.list.items))) ≡ false
      → AfterNoteAnswered first k (agenda_of es u) (agenda_of new u)
  gone_answered k new e none = record {
    list = places x.list.items;
    waited = among;
    begins = parts.1;
    three = refl;
    waiting = ap waiting_of e ∙ waiting_append (take at es) (drop (suc at) es) ∙ sym gone;
    ready = λ was. ap has_due e ∙ still_has (take at es) (drop (suc at) es) x parts.0 (sym (ap has_due (split_at es at x lt is)) ∙ was);
    due = ap (λ z. due_of z ++ uncut_lists u) e ∙ due_left_is (take at es) (drop (suc at) es) u ∙ sym were_due
        ∙ sym (ap (λ b. cond b (put_list (drop k (places x.list.items)) (due_of es ++ uncut_lists u)) (due_of es ++ uncut_lists u)) none);
  }

  module _ (k : ℕ) (y : Entry) (due : y.sent ≡ false) (left : places y.list.items ≡ drop k (places x.list.items)) (listed : IsAskableList u.three y.list.items) where
    pub left_sound : IsSound (slice_set es at y) u
    left_sound = subst (λ z. IsSound z u) (sym (set_at es at y lt)) (record {
      uncut = h.uncut;
      listed = listed_all u.three (take at es) (y ∷ drop (suc at) es) stood.before (listed, stood.after);
      all_wanted = subst IsWanted
          (sym (ap (λ z. concat z ++ uncut_positions u) (lists_append (take at es) (y ∷ drop (suc at) es))
          ∙ ap (λ z. z ++ uncut_positions u) (concat_append (lists_of (take at es)) (lists_of (y ∷ drop (suc at) es)))
          ∙ append_assoc (concat (lists_of (take at es))) (places y.list.items ++ concat (lists_of (drop (suc at) es))) (uncut_positions u)
          ∙ ap (λ z. concat (lists_of (take at es)) ++ z)
          (append_assoc (places y.list.items) (concat (lists_of (drop (suc at) es))) (uncut_positions u) ∙ ap (λ z. z ++ (concat (lists_of (drop (suc at) es)) ++ uncut_positions u)) left)))
          (wanted_drop (concat (lists_of (take at es))) k (places x.list.items) (concat (lists_of (drop (suc at) es)) ++ uncut_positions u) stood.whole);
    })

    pub left_answered : (nat_lt 0 k && nat_lt k (length (places x.list.items))) ≡ true → AfterNoteAnswered first k (agenda_of es u) (agenda_of (slice_set es at y) u)
    left_answered some =
        let now : IsSound (take at es ++ y ∷ drop (suc at) es) u = subst (λ z. IsSound z u) (set_at es at y lt) left_sound in
        let a = due_around u.three (take at es) (drop (suc at) es) (places y.list.items) u (stands_of (take at es) (drop (suc at) es) y u now) in
        record {
          list = places x.list.items;
          waited = among;
          begins = parts.1;
          three = refl;
          ready = λ _. ap has_due (set_at es at y lt) ∙ has_one (take at es) (drop (suc at) es) y due;
          waiting = ap waiting_of (set_at es at y lt) ∙ waiting_append (take at es) (y ∷ drop (suc at) es) ∙ ap (λ z. waiting_of (take at es) ++ z) (waiting_none y (drop (suc at) es) due) ∙ sym gone;
          due = ap (λ z. due_of z ++ uncut_lists u) (set_at es at y lt) ∙ due_around_is (take at es) (drop (suc at) es) y u due
              ∙ sym (put_between (places y.list.items) (due_of (take at es)) (due_of (drop (suc at) es) ++ uncut_lists u) a.0 a.1)
              ∙ ap (put_list (places y.list.items)) (sym were_due) ∙ ap (λ z. put_list z (due_of es ++ uncut_lists u)) left
              ∙ sym (ap (λ b. cond b (put_list (drop k (places x.list.items)) (due_of es ++ uncut_lists u)) (due_of es ++ uncut_lists u)) some);
        }

pub removed_at : (es : List Entry) (at : ℕ) (y : Entry) → at < length es → remove (slice_set es at y) at ≡ take at es ++ drop (suc at) es
removed_at [] at y lt = absurd (omega arith)
removed_at (e ∷ es) zero y lt = refl
removed_at (e ∷ es) (suc at) y lt = ap (λ z. e ∷ z) (removed_at es at y (omega arith))

-- ---- the beginning

pub new_sound : (v : Uncut) (es : List Entry) → IsApart 1 v.ranges.items → IsBounded v.ranges.items → 0 < v.step → es ≡ []
    → IsSound es (record v { place = record { at = 0; used = 0 }; room = v.step })
new_sound v es a b s e = subst (λ z. IsSound z (record v { place = record { at = 0; used = 0 }; room = v.step })) (sym e) (record {
  uncut = record { wanted = a; bounded = b; stands = used_none 1 v.ranges.items a; steps = s; room = s; whole = λ _. refl };
  listed = tt;
  all_wanted = places_ascend 1 v.ranges.items a;
})

pub new_agenda : (wanted : List Range) (count : ℕ) (v : Uncut) (es : List Entry) → AreWanted wanted → v.ranges.items ≡ clip count (map span_of wanted) → es ≡ []
    → agenda_of es (record v { place = record { at = 0; used = 0 }; room = v.step }) ≡ whole_agenda v.three v.step (up_to count (positions wanted))
new_agenda wanted count v es w r e =
    let f : places v.ranges.items ≡ up_to count (positions wanted) =
    ap places r ∙ clip_positions count 1 (map span_of wanted) w.apart ∙ ap (up_to count) (places_spans wanted) in
    subst (λ z. agenda_of z (record v { place = record { at = 0; used = 0 }; room = v.step }) ≡ whole_agenda v.three v.step (up_to count (positions wanted))) (sym e)
    (ap (whole_agenda v.three v.step) f)

pub new_apart : (wanted : List Range) (count : ℕ) → AreWanted wanted → IsApart 1 (clip count (map span_of wanted)) × IsBounded (clip count (map span_of wanted))
new_apart wanted count w = (clip_apart count 1 (map span_of wanted) w.apart, clip_bounded count 1 (map span_of wanted) w.apart w.bounded)
