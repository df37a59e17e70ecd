-- The texts consist of lines of JSON, whatever the names, the character sets, the stops, the facts and the changes are.
use Rattle.std.specs.Prelude.{◌≡◌, ◌≤◌, ℕ, Option, List, ◌++◌, All, codes}
use Rattle.std.specs.List.{flat_map}
use Rattle.std.specs.Str.{IsUtf8}
use Rattle.json.specs.Json.{Members, object}
use Rattle.json.specs.Print.{print}
use Rattle.json.specs.Strict.{HasUniqueKeys}
use Rattle.json.specs.Tree.{json_tokens, MembersHaveNumbers}
use Rattle.zknow.specs.declared.fact.Fact.{Fact}
use Rattle.zmarc.specs.declared.charset.Charset.{Charset}
use Rattle.zknow_stops.specs.declared.stop.Stop.{Stop}
use Rattle.zknow_changes.specs.declared.between.Change.{Change}
use Rattle.zknow_json.specs.Changes.{change_lines}
use Rattle.zknow_json.specs.Lines.{json_lines}

-- the text of a JSON object with these members
abbrev pub object_text : Members → List ℕ
object_text members = print (json_tokens (object members))

-- no octet below 20
abbrev pub HasNoControl : List ℕ → Type 0
HasNoControl octets = All (λ x. 0x20 ≤ x) octets

-- An object of JSON (RFC 8259), at every depth: each number is a number of JSON (section 6), and no object has a key
-- twice (section 4). Its text is UTF-8 (section 8.1).
pub record IsJsonObject (members : Members) : Type 0 where
  pub numbers : MembersHaveNumbers members
  pub unique_keys : HasUniqueKeys (object members)
  pub utf8 : IsUtf8 (object_text members)

-- lines of JSON: each is the text of an object of JSON, has no octet below 20, and has a line feed behind it
pub record AreJsonLines (octets : List ℕ) : Type 0 where
  pub objects : List Members
  pub made : flat_map (λ o. object_text o ++ codes "\n") objects ≡ octets
  pub json : All IsJsonObject objects
  pub no_control : All (λ o. HasNoControl (object_text o)) objects

-- whatever the names, the character sets, the stops and the facts are
abbrev pub LinesLaw : Type 0
LinesLaw =
    (names : List (List ℕ)) (charsets : List (Option Charset)) (stops : List (Option Stop)) (facts : List Fact)
    → AreJsonLines (json_lines names charsets stops facts)

-- whatever the names of both files and the changes are
abbrev pub ChangeLinesLaw : Type 0
ChangeLinesLaw =
    (earlier later : List (List ℕ)) (changes : List Change) → AreJsonLines (change_lines earlier later changes)
