-- What octets begin with and show, they begin with and show whatever follows.
use Rattle.std.proofs.Common.{◌≡◌, ℕ, zero, suc, ◌-◌, ◌≤◌, subst, List, [], ◌∷◌, ◌++◌, length, take, refl, sym, ap, ◌∙◌, arith, append_assoc, length-append, length-take}
use Rattle.std.proofs.lemmas.List.{append-nil}
use Rattle.zber.specs.declared.fault.FaultKind.{FaultKind}
use Rattle.zber.specs.declared.fault.FaultKind.TheVariants as kind
use Rattle.zber.specs.declared.fault.HeaderPlace.{HeaderPlace}
use Rattle.zber.specs.Elements.{Element}
use Rattle.zber.specs.Spelling.{lead, HasFirstMessage}
use Rattle.zber.specs.Headers.{IsBadGroupStart, HasHeaderFault, tag_form, tag_too_large, stray_end, half_stray_end, constructed_end, length_form, indefinite_primitive, passes, ends, too_deep, too_deep_marked}
use Rattle.zber.specs.Shown.{HasFault}

badly_on : (xs ys : List ℕ) → IsBadGroupStart xs → IsBadGroupStart (xs ++ ys)
badly_on [] ys bad = absurd bad
badly_on (x ∷ xs) ys bad = bad

nothing_more : (xs ys : List ℕ) (size : ℕ) → length (xs ++ ys) ≤ size → length xs ≡ size → xs ++ ys ≡ xs
nothing_more xs [] size within full = append-nil xs
nothing_more xs (y ∷ ys) size within full = absurd (omega (arith, within, full, length-append xs (y ∷ ys)))

-- a header shows it in the window
header_stays : {p : HeaderPlace} {xs : List ℕ} {k : FaultKind} (ys : List ℕ) → HasHeaderFault p xs k → length (xs ++ ys) ≤ p.size → HasHeaderFault p (xs ++ ys) k
header_stays ys (tag_form class c xs bad) within = tag_form class c (xs ++ ys) (badly_on xs ys bad)
header_stays {p} ys (tag_too_large class c x fronts xs on shortest small large) within =
    subst (λ (l : List ℕ). HasHeaderFault p (lead class c 31 ∷ l) kind.TagTooLarge) (sym (append_assoc fronts (x ∷ xs) ys)) (tag_too_large class c x fronts (xs ++ ys) on shortest small large)
header_stays ys (stray_end outside) within = stray_end outside
header_stays ys (half_stray_end inside other) within = half_stray_end inside other
header_stays ys constructed_end within = constructed_end
header_stays {p} ys (length_form {i = i} x xs id large) within = subst (λ (l : List ℕ). HasHeaderFault p l kind.LengthForm) (sym (append_assoc i (x ∷ xs) ys)) (length_form x (xs ++ ys) id large)
header_stays {p} ys (indefinite_primitive {i = i} xs id) within = subst (λ (l : List ℕ). HasHeaderFault p l kind.IndefinitePrimitive) (sym (append_assoc i (128 ∷ xs) ys)) (indefinite_primitive (xs ++ ys) id)
header_stays {p} ys (passes {h = h} xs head large) within = subst (λ (l : List ℕ). HasHeaderFault p l p.past) (sym (append_assoc h xs ys)) (passes (xs ++ ys) head large)
header_stays {p} ys (ends {xs = xs} front full) within = subst (λ (l : List ℕ). HasHeaderFault p l p.past) (sym (nothing_more xs ys p.size within full)) (ends front full)
header_stays {p} ys (too_deep {h = h} xs head fits none) within = subst (λ (l : List ℕ). HasHeaderFault p l kind.TooDeep) (sym (append_assoc h xs ys)) (too_deep (xs ++ ys) head fits none)
header_stays {p} ys (too_deep_marked {h = h} xs head none) within = subst (λ (l : List ℕ). HasHeaderFault p l kind.TooDeep) (sym (append_assoc h xs ys)) (too_deep_marked (xs ++ ys) head none)

take_both : (n : ℕ) (xs ys : List ℕ) → take n (xs ++ ys) ≡ take n xs ++ take (n - length xs) ys
take_both zero [] ys = refl
take_both zero (x ∷ xs) ys = let e : 0 - suc (length xs) ≡ 0 = omega arith in rw e refl
take_both (suc n) [] ys = let e : suc n - 0 ≡ suc n = omega arith in rw e refl
take_both (suc n) (x ∷ xs) ys = let e : suc n - suc (length xs) ≡ n - length xs = omega arith in rw e (ap (λ z. x ∷ z) (take_both n xs ys))

pub fault_stays : (limit : ℕ) (xs ys : List ℕ) (k : FaultKind) (at : ℕ) → HasFault limit xs k at → HasFault limit (xs ++ ys) k at
fault_stays limit xs ys k at s =
    let size : ℕ = s.place.size in
    let more : List ℕ = take (size - length s.rest) ys in
    let within : length (take size s.rest ++ more) ≤ size = omega (arith, length-append (take size s.rest) more, length-take size s.rest, length-take (size - length s.rest) ys) in
    record {
      front = s.front;
      rest = s.rest ++ ys;
      place = s.place;
      some = omega (arith, s.some, length-append xs ys);
      cut = ap (λ z. z ++ ys) s.cut ∙ append_assoc s.front s.rest ys;
      at_is = s.at_is;
      reached = s.reached;
      here = s.here;
      shown = rw (take_both size s.rest ys) (header_stays more s.shown within);
    }

pub message_stays : (limit : ℕ) (xs ys : List ℕ) (e : Element) (rest : List ℕ) → HasFirstMessage limit xs e rest → HasFirstMessage limit (xs ++ ys) e (rest ++ ys)
message_stays limit xs ys e rest b = record { message = b.message; is = b.is; cut = ap (λ z. z ++ ys) b.cut ∙ append_assoc b.message rest ys }
