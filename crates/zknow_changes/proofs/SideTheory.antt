-- The changes of both files are the changes from the earlier to the later.
use Rattle.std.proofs.Common.{◌≡◌, ℕ, List, [], ◌++◌, Some, refl, sym, ap, subst, ◌∙◌, ⊎_elim}
use Rattle.std.specs.Prelude.{Contains}
use Rattle.std.specs.declared.cmp.Ordering.TheVariants.{Less}
use Rattle.std.specs.Ordering.{nat_cmp, ordering_then}
use Rattle.std.proofs.lemmas.List.Elements.{Contains-append_cases, Contains-append_left, Contains-append_right}
use Rattle.zapdu.specs.Productions.Records.{whole_record}
use Rattle.zknow.specs.declared.fact.Fact.{Fact}
use Rattle.zknow.specs.Encodings.{encoding_cmp}
use Rattle.zknow.specs.Facts.{AreFacts, IsFact}
use Rattle.zknow.specs.Tables.DistinctLaws.{each_in}
use Rattle.zknow.specs.Tables.Keys.{row_cmp}
use Rattle.zknow.proofs.TableTheory.InSections.{sorted_append}
use Rattle.zknow_changes.specs.declared.between.Change.{Change}
use Rattle.zknow_changes.specs.declared.between.ChangeKind.{ChangeKind}
use Rattle.zknow_changes.specs.declared.between.ChangeKind.TheVariants.{New, Changed, Gone}
use Rattle.zknow_changes.specs.declared.between.Side.TheVariants.{Later, Earlier}
use Rattle.zknow_changes.specs.declared.index.Presence.{Presence}
use Rattle.zknow_changes.specs.declared.index.Presence.TheVariants.{Same, Other, Absent}
use Rattle.zknow_changes.specs.Changes.{change_fact, IsOfKind, kind_place, change_cmp, AreInOrder, AreChanges, AreAddable}
use Rattle.zknow_changes.specs.Indexes.{IsPresence, presence_in, kind_of, side_changes, AreSideChanges}
use Rattle.zknow_changes.proofs.PresenceTheory.{presence_is, one_presence}
use Rattle.zknow_changes.proofs.ChangeTheory.{found_is, is_found}
use Rattle.zknow_changes.proofs.OrderTheory.{side_sorted, side_kinds}

module _ (earlier_names : List (List ℕ)) (earlier : List Fact) (later_names : List (List ℕ)) (later : List Fact) where
  abbrev IsOf : Change → ChangeKind → Type 0
  IsOf c kind = IsOfKind earlier_names earlier later_names later c kind

  -- what the earlier file has of a record of the later
  abbrev LaterPresence : Change → Presence → Type 0
  LaterPresence c p = IsPresence earlier_names earlier later_names c.row.target c.rec p

  -- what the later file has of a record of the earlier
  abbrev EarlierPresence : Change → Presence → Type 0
  EarlierPresence c p = IsPresence later_names later earlier_names c.row.target c.rec p

  of_later : (c : Change) (p : Presence) (kind : ChangeKind) → kind_of Later p ≡ Some kind
      → Contains later (change_fact c) → LaterPresence c p → IsOf c kind
  of_later c Same kind is seen h = absurd (cc)
  of_later c Other New is seen h = absurd (cc)
  of_later c Other Changed is seen h = (seen, h)
  of_later c Other Gone is seen h = absurd (cc)
  of_later c Absent New is seen h = (seen, h)
  of_later c Absent Changed is seen h = absurd (cc)
  of_later c Absent Gone is seen h = absurd (cc)

  of_earlier : (c : Change) (p : Presence) (kind : ChangeKind) → kind_of Earlier p ≡ Some kind
      → Contains earlier (change_fact c) → EarlierPresence c p → IsOf c kind
  of_earlier c Same kind is seen h = absurd (cc)
  of_earlier c Other kind is seen h = absurd (cc)
  of_earlier c Absent New is seen h = absurd (cc)
  of_earlier c Absent Changed is seen h = absurd (cc)
  of_earlier c Absent Gone is seen h = (seen, h)

  -- a change is a fact of one of the files
  is_fact : AreFacts earlier → AreFacts later → (c : Change) (kind : ChangeKind) → IsOf c kind → IsFact (change_fact c)
  is_fact e l c New h = each_in IsFact later l.each (change_fact c) h.0
  is_fact e l c Changed h = each_in IsFact later l.each (change_fact c) h.0
  is_fact e l c Gone h = each_in IsFact earlier e.each (change_fact c) h.0

  module _ (one two : List Change) (a : AreSideChanges Later later_names later earlier_names earlier [] one)
      (b : AreSideChanges Earlier earlier_names earlier later_names later one two) where
    abbrev of_a : List Change
    of_a = side_changes Later a.index later_names later

    abbrev of_b : List Change
    of_b = side_changes Earlier b.index earlier_names earlier

    both : two ≡ of_a ++ of_b
    both = b.appended ∙ ap (λ l. l ++ of_b) a.appended

    presence_a : (c : Change) → LaterPresence c (presence_in a.index later_names c.row.target c.rec)
    presence_a c = presence_is earlier_names earlier a.index a.indexed later_names c.row.target c.rec

    presence_b : (c : Change) → EarlierPresence c (presence_in b.index earlier_names c.row.target c.rec)
    presence_b c = presence_is later_names later b.index b.indexed earlier_names c.row.target c.rec

    out : (c : Change) → Contains two c → IsOf c c.kind
    out c h = ⊎_elim
        (λ first.
        let found = found_is Later a.index later_names later c first in
        of_later c (presence_in a.index later_names c.row.target c.rec) c.kind found.1 found.0 (presence_a c))
        (λ second.
        let found = found_is Earlier b.index earlier_names earlier c second in
        of_earlier c (presence_in b.index earlier_names c.row.target c.rec) c.kind found.1 found.0 (presence_b c))
        (Contains-append_cases of_a of_b c (subst (λ l. Contains l c) both h))

    -- a record of the later file with this presence
    in_a : (c : Change) (p : Presence) → kind_of Later p ≡ Some c.kind → Contains later (change_fact c)
        → LaterPresence c p → Contains two c
    in_a c p is seen h =
        let same = one_presence earlier_names earlier later_names c.row.target c.rec _ p (presence_a c) h in
        subst (λ l. Contains l c) (sym both)
        (Contains-append_left of_a of_b c
        (is_found Later a.index later_names later c (seen, ap (kind_of Later) same ∙ is)))

    -- one of the earlier file
    in_b : (c : Change) (p : Presence) → kind_of Earlier p ≡ Some c.kind → Contains earlier (change_fact c)
        → EarlierPresence c p → Contains two c
    in_b c p is seen h =
        let same = one_presence later_names later earlier_names c.row.target c.rec _ p (presence_b c) h in
        subst (λ l. Contains l c) (sym both)
        (Contains-append_right of_a of_b c
        (is_found Earlier b.index earlier_names earlier c (seen, ap (kind_of Earlier) same ∙ is)))

    in_by : (c : Change) (kind : ChangeKind) → kind ≡ c.kind → IsOf c kind → Contains two c
    in_by c New is h = in_a c Absent (ap (λ (k : ChangeKind). Some k) is) h.0 h.1
    in_by c Changed is h = in_a c Other (ap (λ (k : ChangeKind). Some k) is) h.0 h.1
    in_by c Gone is h = in_b c Absent (ap (λ (k : ChangeKind). Some k) is) h.0 h.1

    below : AreFacts earlier → AreFacts later → (x y : Change) → Contains of_a x → Contains of_b y
        → change_cmp x y ≡ Less
    below e l x y hx hy =
        let first = side_kinds Later a.index later_names later l x hx in
        let second = side_kinds Earlier b.index earlier_names earlier e y hy in
        let rest = ordering_then (row_cmp x.row y.row) (encoding_cmp whole_record x.rec y.rec) in
        ap (λ p. ordering_then (nat_cmp p (kind_place y.kind)) rest) first
        ∙ ap (λ p. ordering_then (nat_cmp 0 p) rest) second

    pub changes_are : AreFacts earlier → AreFacts later → AreChanges earlier_names earlier later_names later two
    changes_are e l = record {
      members = λ c. (out c, in_by c c.kind refl);
      ordered = subst AreInOrder (sym both)
          (sorted_append change_cmp of_a of_b (side_sorted Later a.index later_names later l)
          (side_sorted Earlier b.index earlier_names earlier e) (below e l));
    }

    pub changes_addable : AreFacts earlier → AreFacts later → AreAddable two
    changes_addable e l c h = is_fact e l c c.kind (out c h)
