-- A printed text is that of its query.
use Rattle.std.proofs.Common.{◌≡◌, refl, ℕ, ◌+◌, List, [], ◌∷◌, ◌++◌, length, Bool, true, false, codes, arith, if◌then◌else◌, nat_le}
use Rattle.std.specs.Str.{bytes_eq}
use Rattle.std.proofs.lemmas.Bool.{and_parts}
use Rattle.std.proofs.lemmas.Slice.Eq.{bytes_eq-Decides}
use Rattle.zber.specs.Dotted.{dotted}
use Rattle.zquery.specs.Notation.Words.{token_kind}
use Rattle.zquery.specs.Notation.Sets.{bib1}
use Rattle.zquery_rpn.specs.Trees.{RpnQuery, height}
use Rattle.zquery.specs.Notation.Grammar.{placed, tokens_in, Bare, InAttrSet}
use Rattle.zquery.specs.Notation.Texts.{IsText}
use Rattle.zquery.specs.Notation.Printing.{tree_text, query_text, plain_tree, printable}
use Rattle.zquery.specs.Lawful.{IsLawfulQuery}
use Rattle.zquery.proofs.NotationTheory.PrintedTokens.{lex-both, lex-word, lex-whole, word_at}
use Rattle.zquery.proofs.NotationTheory.PrintedWords.{word-of, dotted-word, dotted-set}
use Rattle.zquery.proofs.NotationTheory.PrintedPhrases.{print-tree}

abbrev opening_as : Bool → List ℕ → List ℕ
opening_as b own = if b then [] else codes "@attrset " ++ (dotted own ++ codes " ")

with-first_expected : (q : RpnQuery) (b : Bool) → bytes_eq q.attr_set bib1 ≡ b → IsLawfulQuery q → plain_tree q.attr_set q.root ≡ true → IsText (opening_as b q.attr_set ++ tree_text q.root) q
unfolding token_kind
with-first_expected q true e l h =
    let p = print-tree q.attr_set q.root 1 0 h l.root in (
      tokens_in (placed 1 p.phrase),
      lex-whole (tree_text q.root) (tokens_in (placed 1 p.phrase)) p.lexes,
      record { whole = Bare p.phrase; reads = ((bytes_eq-Decides q.attr_set bib1).0 e, p.reads); tokens = refl },
    )
with-first_expected q false e l h =
    let own = q.attr_set in
    let t = word_at 0 (codes "@attrset") in
    let u = word_at 9 (dotted own) in
    let first_expected = lex-both 0 (codes "@attrset ") (dotted own ++ 32 ∷ []) (t ∷ []) (u ∷ [])
    (lex-word 0 (codes "@attrset") (word-of (codes "@attrset") (omega arith) refl)) (lex-word 9 (dotted own) (dotted-word own l.attr_set)) in
    let p = print-tree own q.root 1 (0 + length (codes "@attrset " ++ (dotted own ++ 32 ∷ []))) h l.root in
    let ts = t ∷ u ∷ tokens_in (placed 1 p.phrase) in (
      ts,
      lex-whole ((codes "@attrset " ++ (dotted own ++ 32 ∷ [])) ++ tree_text q.root) ts
          (lex-both 0 (codes "@attrset " ++ (dotted own ++ 32 ∷ [])) (tree_text q.root) (t ∷ u ∷ []) (tokens_in (placed 1 p.phrase)) first_expected p.lexes),
      record { whole = InAttrSet t u p.phrase; reads = (refl, dotted-set own l.attr_set, p.reads); tokens = refl },
    )

pub printed-reads : (q : RpnQuery) → IsLawfulQuery q → printable q ≡ true → IsText (query_text q) q
printed-reads q l h =
    let parts = and_parts (nat_le (height q.root) 32) (plain_tree q.attr_set q.root) h in
    with-first_expected q (bytes_eq q.attr_set bib1) refl l parts.1
