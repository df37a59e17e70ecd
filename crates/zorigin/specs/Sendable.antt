-- Which requests can always be sent (Z39.50-2003, 3.2.1.1, 3.2.3.1 and 3.2.11.1).
use Rattle.std.specs.Prelude.{◌≡◌, ℕ, ◌≤◌, Bool, true, false, List, ◌∷◌, length, Some}
use Rattle.zplan.specs.declared.range.Range.{Range}
use Rattle.zorigin.specs.declared.settings.Ask.{Ask}
use Rattle.zorigin.specs.declared.settings.Settings.{Settings}
use Rattle.zorigin.specs.declared.state.Searched.{Searched}
use Rattle.zorigin.specs.Ranges.{are_ranges}
use Rattle.zorigin.specs.Sending.{is_unsendable, init_request, search_request, present_request, close_request}

-- which requests are short enough to be sent
pub record SendableLaws : Type 0 where
  -- an Init, if the origin's name has at most 2,000,000 octets
  pub init : (settings : Settings) → length settings.name ≤ 2000000 → is_unsendable (init_request settings) ≡ false
  -- a Present of at most 1,000 ranges, with the syntax and the element set of a search that can be sent
  pub present : (named : Bool) (op set next : ℕ) (ask : Ask) (searched : Searched) (r : Range) (rs : List Range)
      → is_unsendable (search_request named op set ask) ≡ false
      → ((arcs : List ℕ) → ask.syntax ≡ Some arcs → length arcs ≤ 1000)
      → searched.syntax ≡ ask.syntax → searched.elements ≡ ask.elements
      → are_ranges (r ∷ rs) ≡ true → length (r ∷ rs) ≤ 1000
      → is_unsendable (present_request named next r rs searched) ≡ false
  -- a Close
  pub close : is_unsendable close_request ≡ false
