-- A block is appended whole, and cut behind its plain front.
use Rattle.std.proofs.Common.{◌≡◌, ℕ, ◌+◌, ◌-◌, ◌<◌, ◌≤◌, List, [], ◌∷◌, ◌++◌, zero, suc, length, take, drop, get_or, refl, sym, ap, ◌∙◌, append_assoc, arith}
use Rattle.std.specs.List.{flat_map}
use Rattle.std.proofs.lemmas.List.{take-append-drop, drop-append-le, take_all, length-take, length-drop}
use Rattle.std.proofs.lemmas.List.Concat.{flat_map-append}
use Rattle.std.proofs.Math.Seq.{take-append-add}
use Rattle.zapdu.specs.Text.{quoted_octet}

parted : (v : List ℕ) (r : ℕ) → r < length v
    → flat_map quoted_octet v ≡ flat_map quoted_octet (take r v) ++ (quoted_octet (get_or v r 0) ++ flat_map quoted_octet (drop (suc r) v))
parted [] r lt = absurd (omega arith)
parted (x ∷ xs) zero lt = refl
parted (x ∷ xs) (suc r) lt =
    ap (λ l. quoted_octet x ++ l) (parted xs r (omega arith))
    ∙ sym (append_assoc (quoted_octet x) (flat_map quoted_octet (take r xs)) _)

pub front_whole : (out block all cut put : List ℕ) (r : ℕ) → r < length block → all ≡ out ++ block → cut ≡ take (length out + r) all
    → put ≡ cut ++ quoted_octet (get_or block r 0) → flat_map quoted_octet (take r block) ≡ take r block
    → put ++ flat_map quoted_octet (drop (r + 1) block) ≡ out ++ flat_map quoted_octet block
front_whole out block all cut put r lt both less more plain =
    let here = quoted_octet (get_or block r 0) in
    let behind = flat_map quoted_octet (drop (suc r) block) in
    let next : r + 1 ≡ suc r = omega arith in
    let front : cut ≡ out ++ flat_map quoted_octet (take r block)
    = less ∙ ap (take (length out + r)) both ∙ take-append-add out block r ∙ ap (λ l. out ++ l) (sym plain) in
    ap (λ n. put ++ flat_map quoted_octet (drop n block)) next
    ∙ ap (λ l. l ++ behind) (more ∙ ap (λ l. l ++ here) front)
    ∙ append_assoc (out ++ flat_map quoted_octet (take r block)) here behind
    ∙ append_assoc out (flat_map quoted_octet (take r block)) (here ++ behind)
    ∙ ap (λ l. out ++ l) (sym (parted block r lt))

pub run_whole : (out put octets block : List ℕ) (n : ℕ) → n ≤ 16 → 16 ≤ length octets → block ≡ take 16 octets
    → put ++ flat_map quoted_octet (drop n block) ≡ out ++ flat_map quoted_octet block
    → put ++ flat_map quoted_octet (take (length octets - n) (drop n octets)) ≡ out ++ flat_map quoted_octet octets
run_whole out put octets block n few enough is done =
    let others = drop 16 octets in
    let whole : block ++ others ≡ octets = ap (λ l. l ++ others) is ∙ take-append-drop 16 octets in
    let long : length block ≡ 16 = ap length is ∙ length-take 16 octets ∙ omega arith in
    let rest : drop n octets ≡ drop n block ++ others
    = ap (drop n) (sym whole) ∙ drop-append-le n block others (omega arith) in
    let cut : take (length octets - n) (drop n octets) ≡ drop n block ++ others
    = take_all (length octets - n) (drop n octets) (omega (arith, length-drop n octets)) ∙ rest in
    ap (λ l. put ++ flat_map quoted_octet l) cut
    ∙ ap (λ l. put ++ l) (flat_map-append quoted_octet (drop n block) others)
    ∙ sym (append_assoc put (flat_map quoted_octet (drop n block)) (flat_map quoted_octet others))
    ∙ ap (λ l. l ++ flat_map quoted_octet others) done
    ∙ append_assoc out (flat_map quoted_octet block) (flat_map quoted_octet others)
    ∙ ap (λ l. out ++ l) (sym (flat_map-append quoted_octet block others) ∙ ap (flat_map quoted_octet) whole)
