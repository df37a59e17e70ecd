-- Whatever the octets of a record are, the lines of its copies are safe to print on a terminal.
use Rattle.std.proofs.Common.{◌≡◌, ℕ, Bool, true, false, cond, Option, Some, None, List, [], ◌∷◌, ◌++◌, length, leb, ltb, refl, ap, subst, ◌∙◌}
use lib.Utf8.{encodes}
use Rattle.std.specs.Prelude.{◌&&◌, ◌==◌, All, codes, fold, map}
use Rattle.std.specs.List.{list_all}
use Rattle.std.proofs.lemmas.Bool.{and_parts, leb-true, ltb-true}
use Rattle.std.proofs.lemmas.List.Elements.{All-nil, All-cons, All-head, All-tail, All-append, All-weaker}
use Rattle.std.proofs.lemmas.List.Sums.{AllPass-from_list_all}
use Rattle.std.proofs.lemmas.Str.{encodes-append, IsUtf8-append}
use Rattle.zapdu.specs.declared.productions.external.Content.{Content}
use Rattle.zapdu.specs.declared.productions.external.Content.TheVariants.{Single, Aligned, Arbitrary}
use Rattle.zapdu.specs.declared.productions.external.External.{External}
use Rattle.zmarc.specs.declared.charset.Charset.TheVariants.{Utf8}
use Rattle.zmarc.specs.declared.format.Format.TheVariants.{Marc21}
use Rattle.zmarc.specs.Briefs.{read_in}
use Rattle.zmarc.specs.Laws.{IsPrintable}
use Rattle.zmarc.specs.Shown.{IsSafe, IsSafeOctet, IsSafeText}
use Rattle.zmarc.proofs.LawTheory.{ascii_stands}
use Rattle.zmarc.proofs.SafeTheory.{text_is_safe, brief_is_safe}
use Rattle.zopac.specs.declared.circulation.Circulation.{Circulation}
use Rattle.zopac.specs.declared.holding.Holding.{Holding}
use Rattle.zopac.specs.declared.holding.Holding.TheVariants.{Marc, Copy}
use Rattle.zopac.specs.declared.holdings.HoldingsAndCirc.{HoldingsAndCirc}
use Rattle.zopac.specs.declared.opac.OpacRecord.{OpacRecord}
use Rattle.zopac.specs.declared.volume.Volume.{Volume}
use Rattle.zopac.specs.Joined.{shown, labelled, joined_to, joined}
use Rattle.zopac.specs.Copies.{location, is_worded, copy_word, item, head, volume_text, volume_texts, availability, until, hold, state, circulation_text, circulation_texts, copy_parts, copy_line, brief_of, marc_line, holding_line, holdings_of, copy_lines, AreSafe}

-- ---- texts behind one another

both_safe : {a b : List ℕ} → IsSafeText a → IsSafeText b → IsSafeText (a ++ b)
both_safe {a} {b} first then = record {
  characters = first.characters ++ then.characters;
  spelled = encodes-append first.characters then.characters ∙ ap (λ l. l ++ encodes then.characters) first.spelled
      ∙ ap (λ l. a ++ l) then.spelled;
  safe = All-append IsSafe first.characters then.characters first.safe then.safe;
  utf8 = IsUtf8-append a b first.utf8 then.utf8;
  plain = All-append IsSafeOctet a b first.plain then.plain;
}

either_safe : (b : Bool) {x y : List ℕ} → IsSafeText x → IsSafeText y → IsSafeText (cond b x y)
either_safe true first then = first
either_safe false first then = then

-- ---- printable ASCII

printable_safe : (xs : List ℕ) → All IsPrintable xs → IsSafeText xs
printable_safe xs h = subst IsSafeText (ascii_stands Utf8 xs h) (text_is_safe Utf8 xs)

abbrev is_printable : ℕ → Bool
is_printable x = leb 0x20 x && ltb x 0x7F

printable_from : (x : ℕ) → is_printable x ≡ true → IsPrintable x
printable_from x h = let both = and_parts (leb 0x20 x) (ltb x 0x7F) h in
    (leb-true 0x20 x both.0, ltb-true x 0x7F both.1)

literal_safe : (xs : List ℕ) → list_all is_printable xs ≡ true → IsSafeText xs
literal_safe xs h =
    printable_safe xs (All-weaker (λ x. is_printable x ≡ true) IsPrintable printable_from xs
    (AllPass-from_list_all is_printable xs h))

nothing_safe : IsSafeText []
nothing_safe = literal_safe [] refl

-- ---- texts with separators

shown_safe : (t : Option (List ℕ)) → IsSafeText (shown t)
shown_safe None = nothing_safe
shown_safe (Some octets) = text_is_safe Utf8 octets

labelled_safe : (word piece : List ℕ) → IsSafeText word → IsSafeText piece → IsSafeText (labelled word piece)
labelled_safe word piece w s = either_safe (length piece == 0) nothing_safe (both_safe w s)

joined_to_safe : (separator line piece : List ℕ) → IsSafeText separator → IsSafeText line → IsSafeText piece
    → IsSafeText (joined_to separator line piece)
unfolding joined_to
joined_to_safe separator line piece s l p =
    either_safe (length piece == 0) l (either_safe (length line == 0) p (both_safe (both_safe l s) p))

fold_safe : (separator line : List ℕ) (pieces : List (List ℕ)) → IsSafeText separator → IsSafeText line
    → All IsSafeText pieces → IsSafeText (fold (joined_to separator) line pieces)
fold_safe separator line [] s l h = l
fold_safe separator line (p ∷ ps) s l h =
    fold_safe separator (joined_to separator line p) ps s
    (joined_to_safe separator line p s l (All-head IsSafeText p ps h)) (All-tail IsSafeText p ps h)

joined_safe : (separator : List ℕ) (pieces : List (List ℕ)) → IsSafeText separator → All IsSafeText pieces
    → IsSafeText (joined separator pieces)
joined_safe separator pieces s h = fold_safe separator [] pieces s nothing_safe h

comma_safe : IsSafeText (codes ", ")
comma_safe = literal_safe (codes ", ") refl

colon_safe : IsSafeText (codes ": ")
colon_safe = literal_safe (codes ": ") refl

two_safe : (separator a b : List ℕ) → IsSafeText separator → IsSafeText a → IsSafeText b
    → IsSafeText (joined separator (a ∷ b ∷ []))
two_safe separator a b s x y =
    joined_to_safe separator (joined_to separator [] a) b s (joined_to_safe separator [] a s nothing_safe x) y

three_safe : (separator a b c : List ℕ) → IsSafeText separator → IsSafeText a → IsSafeText b → IsSafeText c
    → IsSafeText (joined separator (a ∷ b ∷ c ∷ []))
three_safe separator a b c s x y z =
    joined_to_safe separator (joined_to separator (joined_to separator [] a) b) c s (two_safe separator a b s x y) z

all_map : {X : Type 0} (f : X → List ℕ) → ((x : X) → IsSafeText (f x)) → (xs : List X) → All IsSafeText (map f xs)
all_map f each [] = All-nil IsSafeText
all_map f each (x ∷ xs) = All-cons IsSafeText (f x) (map f xs) (each x) (all_map f each xs)

-- ---- copies

location_safe : (c : HoldingsAndCirc) → IsSafeText (location c)
location_safe c =
    three_safe (codes ", ") (shown c.local_location) (shown c.shelving_location) (shown c.nuc_code) comma_safe
    (shown_safe c.local_location) (shown_safe c.shelving_location) (shown_safe c.nuc_code)

word_safe : (number : Option (List ℕ)) → IsSafeText (copy_word number)
word_safe None = literal_safe (codes "copy ") refl
word_safe (Some number) = either_safe (is_worded number) nothing_safe (literal_safe (codes "copy ") refl)

item_safe : (c : HoldingsAndCirc) → IsSafeText (item c)
item_safe c =
    three_safe (codes ", ") (shown c.call_number) (labelled (copy_word c.copy_number) (shown c.copy_number))
    (shown c.enumeration_and_chronology) comma_safe (shown_safe c.call_number)
    (labelled_safe (copy_word c.copy_number) (shown c.copy_number) (word_safe c.copy_number)
    (shown_safe c.copy_number)) (shown_safe c.enumeration_and_chronology)

head_safe : (c : HoldingsAndCirc) → IsSafeText (head c)
head_safe c = two_safe (codes ": ") (location c) (item c) colon_safe (location_safe c) (item_safe c)

volume_safe : (v : Volume) → IsSafeText (volume_text v)
volume_safe v =
    three_safe (codes ", ") (shown v.enumeration) (shown v.chronology) (shown v.enumeration_and_chronology) comma_safe
    (shown_safe v.enumeration) (shown_safe v.chronology) (shown_safe v.enumeration_and_chronology)

volumes_safe : (o : Option (List Volume)) → All IsSafeText (volume_texts o)
volumes_safe None = All-nil IsSafeText
volumes_safe (Some vs) = all_map volume_text volume_safe vs

available_safe : (now : Bool) → IsSafeText (availability now)
available_safe now =
    either_safe now (literal_safe (codes "available") refl) (literal_safe (codes "not available") refl)

until_safe : (now : Bool) (date : Option (List ℕ)) → IsSafeText (until now date)
until_safe now date =
    either_safe now nothing_safe
    (labelled_safe (codes "until ") (shown date) (literal_safe (codes "until ") refl) (shown_safe date))

hold_safe : (reserved : Bool) → IsSafeText (hold reserved)
hold_safe reserved = either_safe reserved (literal_safe (codes "on hold") refl) nothing_safe

state_safe : (r : Circulation) → IsSafeText (state r)
state_safe r =
    three_safe (codes ", ") (availability r.available_now) (until r.available_now r.availability_date)
    (hold r.on_hold) comma_safe (available_safe r.available_now)
    (until_safe r.available_now r.availability_date) (hold_safe r.on_hold)

circulation_safe : (r : Circulation) → IsSafeText (circulation_text r)
circulation_safe r =
    two_safe (codes ": ") (shown r.enumeration_and_chronology) (state r) colon_safe
    (shown_safe r.enumeration_and_chronology) (state_safe r)

circulations_safe : (o : Option (List Circulation)) → All IsSafeText (circulation_texts o)
circulations_safe None = All-nil IsSafeText
circulations_safe (Some rs) = all_map circulation_text circulation_safe rs

parts_safe : (c : HoldingsAndCirc) → All IsSafeText (copy_parts c)
parts_safe c =
    All-cons IsSafeText (head c) (volume_texts c.volumes ++ shown c.public_note ∷ circulation_texts c.circulations)
    (head_safe c)
    (All-append IsSafeText (volume_texts c.volumes) (shown c.public_note ∷ circulation_texts c.circulations)
    (volumes_safe c.volumes)
    (All-cons IsSafeText (shown c.public_note) (circulation_texts c.circulations) (shown_safe c.public_note)
    (circulations_safe c.circulations)))

copy_safe : (c : HoldingsAndCirc) → IsSafeText (copy_line c)
unfolding copy_line
copy_safe c =
    either_safe (length (joined (codes "; ") (copy_parts c)) == 0)
    (literal_safe (codes "copy without details") refl)
    (joined_safe (codes "; ") (copy_parts c) (literal_safe (codes "; ") refl) (parts_safe c))

brief_safe : (v : Content) → IsSafeText (brief_of v)
brief_safe (Single e) = nothing_safe
brief_safe (Aligned octets) = brief_is_safe (read_in Marc21 None) octets
brief_safe (Arbitrary bits) = nothing_safe

marc_safe : (v : External) → IsSafeText (marc_line v)
unfolding marc_line
marc_safe v =
    two_safe (codes ": ") (codes "MARC holdings record") (brief_of v.content) colon_safe
    (literal_safe (codes "MARC holdings record") refl) (brief_safe v.content)

pub holding_is_safe : (h : Holding) → IsSafeText (holding_line h)
holding_is_safe (Marc v) = marc_safe v
holding_is_safe (Copy c) = copy_safe c

pub lines_are_safe : (r : OpacRecord) → AreSafe (copy_lines r)
lines_are_safe r = all_map holding_line holding_is_safe (holdings_of r.holdings)
