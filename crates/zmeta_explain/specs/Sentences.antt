-- Sentences: fixed words, with something of the user's between them.
use Rattle.std.specs.Prelude.{ℕ, List, ◌++◌}
use Rattle.std.specs.Fmt.{decimal}
use Rattle.zmeta_explain.specs.declared.sentences.Insert.{Insert}
use Rattle.zmeta_explain.specs.declared.sentences.Insert.TheVariants as inserts
use Rattle.zmeta_explain.specs.declared.sentences.Sentence.{Sentence}
use Rattle.zmeta_explain.specs.declared.sentences.Sentence.TheVariants.{Plain, One, Two}
use Rattle.zmeta_explain.specs.Shown.{shown_text, name_text}

-- what stands between words
abbrev pub insert_text : Insert → List ℕ
insert_text (inserts.Text text) = shown_text text.now
insert_text (inserts.Name name) = name_text name.now
insert_text (inserts.Words words) = words.now
insert_text (inserts.Number n) = decimal n

-- the sentence
abbrev pub sentence_text : Sentence → List ℕ
sentence_text (Plain words) = words.now
sentence_text (One before i after) = before.now ++ insert_text i ++ after.now
sentence_text (Two before i between j after) =
    before.now ++ insert_text i ++ between.now ++ insert_text j ++ after.now
