use Rattle.std.proofs.Common.{◌≡◌, ◌++◌, length, drop, option_map}
use Rattle.std.specs.Str.{chars}
use Rattle.zmeta_catalogues.specs.Charsets.{latin1}
use Rattle.zmeta_catalogues.proofs.charset.latin1.Given as goal

abbrev pub invariant-letters : goal.invariant-letters
invariant-letters l = record {
  as_many : length l.octets.items ≡ length l.yielded;
  same :
      latin1 (chars l.text)
      ≡ option_map (λ octets. l.octets.items ++ octets) (latin1 (drop (length l.yielded) (chars l.text)));
}
