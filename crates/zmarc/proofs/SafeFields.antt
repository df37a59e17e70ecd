-- Whatever the octets of a record are, its fields are safe text.
use Rattle.std.proofs.Common.{ℕ, Option, Some, None, List, [], cond}
use Rattle.std.specs.Option.{option_map}
use Rattle.std.proofs.lemmas.Bool.{cond_both}
use Rattle.zmarc.specs.declared.format.Reading.{Reading}
use Rattle.zmarc.specs.Briefs.{charset, joined}
use Rattle.zmarc.specs.Fields.{without_marks, without_end_marks, title_alone, author, shown_of, year_text, title_text, author_text, isbn_text}
use Rattle.zmarc.specs.Isbns.{isbn_number}
use Rattle.zmarc.specs.Records.{is_record}
use Rattle.zmarc.specs.Shown.{IsSafeText}
use Rattle.zmarc.specs.Years.{year}
use Rattle.zmarc.proofs.SafeTheory.{nothing_is_safe, text_is_safe, joined_is_safe}

shown_of_is_safe : (reading : Reading) (octets : List ℕ) (found : Option (List ℕ))
    → IsSafeText (shown_of reading octets found)
shown_of_is_safe reading octets None = nothing_is_safe
shown_of_is_safe reading octets (Some found) = text_is_safe (charset reading octets) found

-- what is shown of a record alone
of_record : (octets shown : List ℕ) → IsSafeText shown → IsSafeText (cond (is_record octets) shown [])
of_record octets shown safe = cond_both (is_record octets) shown [] IsSafeText (λ _. safe) (λ _. nothing_is_safe)

pub year_is_safe : (reading : Reading) (octets : List ℕ) → IsSafeText (year_text reading octets)
unfolding year_text
year_is_safe reading octets =
    of_record octets (shown_of reading octets (year reading.format octets))
    (shown_of_is_safe reading octets (year reading.format octets))

pub title_is_safe : (reading : Reading) (octets : List ℕ) → IsSafeText (title_text reading octets)
unfolding title_text
title_is_safe reading octets =
    of_record octets (joined (charset reading octets) [] (without_end_marks (title_alone reading.format octets)))
    (joined_is_safe (charset reading octets) [] (without_end_marks (title_alone reading.format octets)) nothing_is_safe)

pub author_is_safe : (reading : Reading) (octets : List ℕ) → IsSafeText (author_text reading octets)
unfolding author_text
author_is_safe reading octets =
    let found : Option (List ℕ) = option_map without_marks (author reading.format octets) in
    of_record octets (shown_of reading octets found) (shown_of_is_safe reading octets found)

pub isbn_is_safe : (reading : Reading) (octets : List ℕ) → IsSafeText (isbn_text reading octets)
unfolding isbn_text
isbn_is_safe reading octets =
    let found : Option (List ℕ) = isbn_number reading.format octets in
    of_record octets (shown_of reading octets found) (shown_of_is_safe reading octets found)
