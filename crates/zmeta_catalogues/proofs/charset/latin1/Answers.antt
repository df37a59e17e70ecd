use Rattle.std.proofs.Common.{◌≡◌, ◌∙◌, ◌+◌, ◌∷◌, ◌++◌, [], List, ℕ, Some, length, drop, leb, leb-true, true, option_map, sym, ap, arith, length-append}
use Rattle.std.proofs.lemmas.Iterator.{YieldsList-from_chars}
use Rattle.std.proofs.lemmas.Iterator.Consumers.{YieldsList-turn, YieldsList-end}
use Rattle.std.specs.Str.{chars}
use Rattle.zmeta_catalogues.specs.Charsets.{latin1}
use Rattle.zmeta_catalogues.proofs.Charsets.{one_letter, no_letter, all_letters}
use Rattle.zmeta_catalogues.proofs.charset.latin1.Goals as goal

pub overflow_cast-letter : goal.overflow_cast-letter
overflow_cast-letter c =
    let few = leb-true c.in-Some.letter 255 (sym c.is_latin1.ensures ∙ c.if-not-is_latin1.false) in omega (arith, few)

pub letters-preserved : goal.letters-preserved
letters-preserved c =
    let at = c.letters in
    let letter = c.in-Some.letter in
    let cs = chars c.args.text.now in
    let turn = YieldsList-turn (YieldsList-from_chars c.args.text.now c.utf8.text cc) at.yielded _ at.yielded_by _ _
    letter c.in-Some.is c.next.ensures.steps in
    let is : leb letter 255 ≡ true = sym c.is_latin1.ensures ∙ c.if-not-is_latin1.false in record {
      as_many =
          ap length c.in_ok-push.ensures.items ∙ length-append at.octets.items (letter ∷ [])
          ∙ ap (λ (n : ℕ). n + 1) at.invariant.as_many ∙ sym (length-append at.yielded (letter ∷ []));
      same =
          one_letter cs at.octets.items (length at.yielded) letter (latin1 cs) turn is at.invariant.same
          ∙ ap (λ (xs : List ℕ). option_map (λ os. xs ++ os) (latin1 (drop (length at.yielded + 1) cs)))
          (sym c.in_ok-push.ensures.items)
          ∙ ap (λ (n : ℕ). option_map (λ os. c.push.new.self.items ++ os) (latin1 (drop n cs)))
          (sym (length-append at.yielded (letter ∷ [])));
    }

pub returns-then-not-is_latin1 : goal.returns-then-not-is_latin1
returns-then-not-is_latin1 c =
    let at = c.letters in
    let turn = YieldsList-turn (YieldsList-from_chars c.args.text.now c.utf8.text cc) at.yielded _ at.yielded_by _ _
    c.in-Some.letter c.in-Some.is c.next.ensures.steps in
    no_letter (chars c.args.text.now) at.octets.items (length at.yielded) c.in-Some.letter
    (latin1 (chars c.args.text.now)) turn (sym c.is_latin1.ensures ∙ c.if-not-is_latin1.true) at.invariant.same

pub returns : goal.returns
returns c =
    let at = c.letters in
    let cs = chars c.args.text.now in
    let end = YieldsList-end (YieldsList-from_chars c.args.text.now c.utf8.text cc) at.yielded _ at.yielded_by _ _
    c.in-None.is c.next.ensures.steps in
    let many : length at.yielded ≡ length cs = end.1 in
    ap Some c.in_ok-from_vec.ensures.ok
    ∙ all_letters cs at.octets.items (length at.yielded) (latin1 cs) (omega arith) at.invariant.same
