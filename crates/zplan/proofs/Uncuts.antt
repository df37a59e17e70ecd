-- The next list of what is still to be cut.
use Rattle.std.proofs.Common.{◌≡◌, ◌-◌, ◌<◌, ◌≤◌, true, false, [], ◌∷◌, ◌++◌, length, refl, sym, ap, subst, ◌∙◌, append-nil, true≢false}
use Rattle.zplan.specs.declared.part.Run.{Run}
use Rattle.zplan.specs.declared.uncut.Uncut.{Uncut}
use Rattle.zplan.specs.declared.uncut.Cut.{Cut}
use Rattle.zplan.specs.Positions.{IsFrom}
use Rattle.zplan.specs.Ranges.{places, places_of}
use Rattle.zplan.specs.Cutting.{deal, left_at, IsReadingPlace, IsNextList, IsNextRun}
use Rattle.zplan.specs.Schedules.{IsUncut, IsFirstCut, IsAskableList}
use Rattle.zplan.proofs.Entries.{begun_have}
use Rattle.zplan.proofs.Lists.{list_first}
use Rattle.zplan.proofs.Parts.{left_from, begins_from}

pub list_cut : (u : Uncut) (cut : Cut) → IsUncut u → u.three ≡ true → 0 < length cut.list.items → cut.room ≡ u.room
    → IsNextList u.ranges.items u.place u.step cut.list.items cut.place → IsFirstCut u cut
list_cut u cut h three some room l =
    let step : u.room ≡ u.step = h.whole three in
    let e = list_first u.ranges.items u.place cut.place u.step cut.list.items l h.steps some in
    let f : deal true (u.step - 1) (u.room - 1) (left_at u.ranges.items u.place) ≡ places cut.list.items ∷ deal true (u.step - 1) (cut.room - 1) (left_at u.ranges.items cut.place) =
    ap (λ r. deal true (u.step - 1) (r - 1) (left_at u.ranges.items u.place)) step ∙ e
    ∙ ap (λ r. places cut.list.items ∷ deal true (u.step - 1) (r - 1) (left_at u.ranges.items cut.place)) (sym (room ∙ step)) in
    record {
      listed = record {
        begun = begun_have cut.list.items some l.have;
        gaps = l.gaps;
        bounded = l.bounded;
        single = λ two. absurd (true≢false (sym three ∙ two));
      };
      first = subst (λ t. deal t (u.step - 1) (u.room - 1) (left_at u.ranges.items u.place) ≡ places cut.list.items ∷ deal t (u.step - 1) (cut.room - 1) (left_at u.ranges.items cut.place)) (sym three) f;
      comes = l.comes;
      rest = record {
        wanted = h.wanted;
        bounded = h.bounded;
        stands = l.stays;
        steps = h.steps;
        room = subst (λ r. 0 < r) (sym room) h.room;
        whole = λ t. room ∙ h.whole t;
      };
    }

pub run_cut : (u : Uncut) (cut : Cut) (run : Run) → IsUncut u → u.three ≡ false → IsNextRun u.ranges.items u.place u.room u.step run
    → cut.list.items ≡ run.range ∷ [] → cut.place ≡ run.next → cut.room ≡ run.room → IsFirstCut u cut
run_cut u cut run h two r items place room =
    let one : places cut.list.items ≡ places_of run.range = ap places items ∙ append-nil (places_of run.range) in
    let b = r.some in
    let low : 1 ≤ run.range.start = begins_from 1 run.range.start run.range.n (left_at u.ranges.items run.next) b (subst (IsFrom 1) r.comes (left_from u.ranges.items u.place h.wanted)) in
    record {
      listed = subst (IsAskableList u.three) (sym items) (record { begun = (b, tt); gaps = (low, b, tt); bounded = (r.bounded, tt); single = λ _. refl });
      first = ap (λ t. deal t (u.step - 1) (u.room - 1) (left_at u.ranges.items u.place)) two ∙ r.first
          ∙ ap (λ l. l ∷ deal false (u.step - 1) (run.room - 1) (left_at u.ranges.items run.next)) (sym one)
          ∙ ap (λ t. places cut.list.items ∷ deal t (u.step - 1) (run.room - 1) (left_at u.ranges.items run.next)) (sym two)
          ∙ ap (λ m. places cut.list.items ∷ deal u.three (u.step - 1) (m - 1) (left_at u.ranges.items run.next)) (sym room)
          ∙ ap (λ p. places cut.list.items ∷ deal u.three (u.step - 1) (cut.room - 1) (left_at u.ranges.items p)) (sym place);
      comes = r.comes ∙ ap (λ l. l ++ left_at u.ranges.items run.next) (sym one) ∙ ap (λ p. places cut.list.items ++ left_at u.ranges.items p) (sym place);
      rest = record {
        wanted = h.wanted;
        bounded = h.bounded;
        stands = subst (λ p. IsReadingPlace u.ranges.items p) (sym place) r.stays;
        steps = h.steps;
        room = subst (λ m. 0 < m) (sym room) r.room_left;
        whole = λ t. absurd (true≢false (sym t ∙ two));
      };
    }
