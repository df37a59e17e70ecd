-- The world file of a world is read as this world.
use Rattle.std.proofs.Common.{◌≡◌, refl, sym, ◌∙◌, ap, ap₂, subst, ℕ, ◌+◌, ◌^◌, ◌<◌, ◌≤◌, ◌==◌, List, [], ◌∷◌, ◌++◌, map, length, Bool, true, false, not, if◌then◌else◌, Option, Some, None, arith, append_assoc, append-nil}
use Rattle.std.specs.Prelude.{codes}
use Rattle.std.specs.Fmt.{decimal}
use Rattle.std.specs.List.{flat_map}
use Rattle.std.specs.Option.{option_map, option_and_then, option_or, is_some}
use Rattle.std.proofs.lemmas.List.{map-append}
use Rattle.std.proofs.lemmas.Bool.{and_parts, or_from, cond-false, leb-true, eqb-true}
use Rattle.zquery.specs.Trees.{height}
use Rattle.zquery.specs.Notation.Printing.{in_quotes, printable, query_text}
use Rattle.zquery.proofs.NotationTheory.PrintedWords.{word-of}
use Rattle.zoom_questions.specs.declared.question.Question.{Question}
use Rattle.zoom_questions.specs.Askable.{IsAskable, AreAskable}
use Rattle.zmeta_world.specs.declared.world.World.{World}
use Rattle.zmeta_world.specs.declared.world.NamedHost.{NamedHost}
use Rattle.zmeta_world.specs.declared.world.AskedQuestion.{AskedQuestion}
use Rattle.zmeta_world.specs.declared.world.End.{End}
use Rattle.zmeta_world.specs.Finding.{questions_of}
use Rattle.zmeta_world.specs.WorldLines.{lines_of, line_of, keyword_of, syntax_of}
use Rattle.zmeta_world.specs.WorldWants.{number_in, wanted_of}
use Rattle.zmeta_world.specs.Worlds.{host_names, asked_names, is_among, end_of, AfterLineText, AreWorld, none, more}
use Rattle.zmeta_conversions.specs.declared.worlds.Unsaid.{Unsaid}
use Rattle.zmeta_conversions.specs.declared.worlds.Unsaid.TheVariants as reasons
use Rattle.zmeta_conversions.specs.Worlds.{Reason, syntax_text, wanted_text, host_text, wants_text, ask_text, number_text, ended, host_line, ask_line, world_text, has_feed, unsaid_host, unsaid_question, first_unsaid, unsaid, IsReadable, AreReadable}
use Rattle.zmeta_conversions.specs.Laws.{AreNew, AreAtHosts, unlined, ReadAgain}
use Rattle.zmeta_conversions.proofs.Lexing.{IsLine, Lexed, quoted, word_then, quoted_then, whole, two_words}
use Rattle.zmeta_conversions.proofs.Wanted.{split_at, lacks_append, in_range, decimal_word, decimal_lacks, wanted_read, wanted_word, syntax_read, syntax_word}

-- ---- lines

ended_then : (text rest : List ℕ) → has_feed text ≡ false → lines_of (ended text ++ rest) ≡ text ∷ lines_of rest
ended_then text rest h = ap lines_of (append_assoc text (10 ∷ []) rest) ∙ split_at 10 text rest h

-- no line feed is in the texts of these
abbrev AreFeedless : {A : Type 0} → (A → List ℕ) → List A → Type 0
AreFeedless text [] = Unit {0}
AreFeedless text (x ∷ xs) = (has_feed (text x) ≡ false) × AreFeedless text xs

lines_then : {A : Type 0} (text : A → List ℕ) (xs : List A) (rest : List ℕ) → AreFeedless text xs
    → lines_of (flat_map (λ x. ended (text x)) xs ++ rest) ≡ map text xs ++ lines_of rest
lines_then text [] rest h = refl
lines_then text (x ∷ xs) rest h =
    ap lines_of (append_assoc (ended (text x)) (flat_map (λ y. ended (text y)) xs) rest)
    ∙ ended_then (text x) (flat_map (λ y. ended (text y)) xs ++ rest) h.0
    ∙ ap (λ z. text x ∷ z) (lines_then text xs rest h.1)

-- ---- what can be said

or_none : (a b : Option Reason) → option_or a b ≡ None → (a ≡ None) × (b ≡ None)
or_none None b h = (refl, h)
or_none (Some r) b h = absurd (Prim.cc h)

no_reason : (b : Bool) (name : List ℕ) (r : Unsaid)
    → option_map {U = Reason} (λ (u : Unsaid). (name, u)) (if b then Some r else None) ≡ None → b ≡ false
no_reason true name r h = absurd (Prim.cc h)
no_reason false name r h = refl

hosts_feedless : (hs : List NamedHost) → first_unsaid unsaid_host hs ≡ None → AreFeedless host_text hs
hosts_feedless [] e = tt
hosts_feedless (h ∷ hs) e =
    let p = or_none (unsaid_host h) (first_unsaid unsaid_host hs) e in
    (no_reason (has_feed (host_text h)) h.name reasons.LineFeed p.0, hosts_feedless hs p.1)

-- what a question that can be said is like
record IsSayable (q : AskedQuestion) : Type 0 where
  one : (length q.question.databases == 1) ≡ true
  elements : is_some q.question.elements ≡ false
  query : printable q.question.query ≡ true
  feedless : has_feed (ask_text q) ≡ false

record Four (a b c d : Bool) : Type 0 where
  is_a : a ≡ true
  is_b : b ≡ false
  is_c : c ≡ true
  is_d : d ≡ false

four : (a b c d : Bool) (name : List ℕ)
    → option_map {U = Reason} (λ (u : Unsaid). (name, u))
    (if not a then Some reasons.Databases else if b then Some reasons.Elements else if not c then Some
    reasons.Query else if d then Some reasons.LineFeed else None)
    ≡ None
    → Four a b c d
four false b c d name h = absurd (Prim.cc h)
four true true c d name h = absurd (Prim.cc h)
four true false false d name h = absurd (Prim.cc h)
four true false true true name h = absurd (Prim.cc h)
four true false true false name h = record { is_a = refl; is_b = refl; is_c = refl; is_d = refl }

sayable : (q : AskedQuestion) → unsaid_question q ≡ None → IsSayable q
sayable q h =
    let f = four (length q.question.databases == 1) (is_some q.question.elements) (printable q.question.query)
    (has_feed (ask_text q)) q.name h in
    record { one = f.is_a; elements = f.is_b; query = f.is_c; feedless = f.is_d }

questions_feedless : (qs : List AskedQuestion) → first_unsaid unsaid_question qs ≡ None → AreFeedless ask_text qs
questions_feedless [] e = tt
questions_feedless (q ∷ qs) e =
    let p = or_none (unsaid_question q) (first_unsaid unsaid_question qs) e in
    ((sayable q p.0).feedless, questions_feedless qs p.1)

one_of : (xs : List (List ℕ)) → (length xs == 1) ≡ true → (x : List ℕ) × (xs ≡ x ∷ [])
one_of [] h = absurd (Prim.cc h)
one_of (x ∷ []) h = (x, refl)
one_of (x ∷ y ∷ ys) h = absurd (omega (arith, eqb-true (length (x ∷ y ∷ ys)) 1 h))

none_of : (e : Option (List ℕ)) → is_some e ≡ false → e ≡ None
none_of None h = refl
none_of (Some x) h = absurd (Prim.cc h)

-- ---- one line

-- what a line says, by what its parts say
mapped : {A B : Type 0} (f : A → B) (o : Option A) (x : A) → o ≡ Some x → option_map f o ≡ Some (f x)
mapped f o x e = ap (option_map f) e

mapped_both : {A B C : Type 0} (f : A → B → C) (a : Option A) (b : Option B) (x : A) (y : B) → a ≡ Some x → b ≡ Some y
    → option_and_then (λ u. option_map (f u) b) a ≡ Some (f x y)
mapped_both f a b x y d e = ap (option_and_then (λ u. option_map (f u) b)) d ∙ ap (option_map (f x)) e

-- a world of hosts
abbrev host_world : ℕ → ℕ → List NamedHost → List AskedQuestion → World
host_world step window hosts questions = record
    { step = step; window = window; targets = []; hosts = hosts; questions = questions; moves = [] }

-- ---- numbers

step_after : (number n window : ℕ) → 0 < n → n ≤ 1000
    → AfterLineText number (number_text (codes "step") n) (host_world 10 window [] []) (host_world n window [] [])
unfolding keyword_of
step_after number n window l m =
    let t = two_words (codes "step") (decimal n) (word-of (codes "step") (omega arith) refl)
    (decimal_word n (omega arith)) in
    record {
      tokens = t.tokens;
      line = _;
      lexed = t.lexed;
      meaning = ap line_of t.are
          ∙ mapped _ (number_in 1 1000 (decimal n)) n (in_range 1 1000 n (omega arith) (omega arith) m);
      effect = refl;
    }

window_after : (number n step : ℕ) → 0 < n → n ≤ 64
    → AfterLineText number (number_text (codes "window") n) (host_world step 4 [] []) (host_world step n [] [])
unfolding keyword_of
window_after number n step l m =
    let t = two_words (codes "window") (decimal n) (word-of (codes "window") (omega arith) refl)
    (decimal_word n (omega arith)) in
    record {
      tokens = t.tokens;
      line = _;
      lexed = t.lexed;
      meaning = ap line_of t.are
          ∙ mapped _ (number_in 1 64 (decimal n)) n (in_range 1 64 n (omega arith) (omega arith) m);
      effect = refl;
    }

number_feedless : (word : List ℕ) (n : ℕ) → has_feed word ≡ false → n < 2 ^ 64 → has_feed (number_text word n) ≡ false
number_feedless word n h s = lacks_append (λ b. b == 10) word (32 ∷ decimal n) h
    (or_from _ _ refl (decimal_lacks 10 n (omega arith) s))

-- ---- hosts

host_tokens : (h : NamedHost) → IsLine (host_text h) (codes "host" ∷ h.name ∷ h.address ∷ [])
host_tokens h =
    whole (host_text h) (codes "host" ∷ h.name ∷ h.address ∷ [])
    (word_then (codes "host") (in_quotes h.name ++ 32 ∷ in_quotes h.address) (h.name ∷ h.address ∷ [])
    (word-of (codes "host") (omega arith) refl)
    (quoted_then h.name (in_quotes h.address) (h.address ∷ []) (quoted h.address)))

host_after : (s n number : ℕ) (hs : List NamedHost) (h : NamedHost) → is_among h.name (host_names hs) ≡ false
    → AfterLineText number (host_text h) (host_world s n hs []) (host_world s n (hs ++ h ∷ []) [])
unfolding keyword_of
host_after s n number hs h k = let t = host_tokens h in record {
  tokens = t.tokens;
  line = _;
  lexed = t.lexed;
  meaning = ap line_of t.are;
  effect = cond-false _ _ _ k;
}

hosts_read : (s n : ℕ) (front : List (List ℕ)) (hs rest : List NamedHost) → AreWorld front (host_world s n hs [])
    → AreNew (host_names hs) (host_names rest)
    → AreWorld (front ++ map host_text rest) (host_world s n (hs ++ rest) [])
hosts_read s n front hs [] a k =
    subst (λ (z : List (List ℕ)). AreWorld z (host_world s n (hs ++ []) [])) (sym (append-nil front))
    (subst (λ (z : List NamedHost). AreWorld front (host_world s n z [])) (sym (append-nil hs)) a)
hosts_read s n front hs (h ∷ rest) a k =
    let next : AreWorld (front ++ host_text h ∷ []) (host_world s n (hs ++ h ∷ []) []) =
    more a (host_after s n (length front + 1) hs h k.0) in
    let news : AreNew (host_names (hs ++ h ∷ [])) (host_names rest) =
    subst (λ (z : List (List ℕ)). AreNew z (host_names rest))
    (sym (map-append (λ (i : NamedHost). i.name) hs (h ∷ []))) k.1 in
    subst (λ (z : List (List ℕ)). AreWorld z (host_world s n (hs ++ h ∷ rest) []))
    (append_assoc front (host_text h ∷ []) (map host_text rest))
    (subst (λ (z : List NamedHost). AreWorld ((front ++ host_text h ∷ []) ++ map host_text rest)
    (host_world s n z [])) (append_assoc hs (h ∷ []) rest)
    (hosts_read s n (front ++ host_text h ∷ []) (hs ++ h ∷ []) rest next news))

-- ---- questions

ask_texts : AskedQuestion → List ℕ → List (List ℕ)
ask_texts q d =
    codes "ask" ∷ q.name ∷ d ∷ syntax_text q.question.syntax ∷ wanted_text q.question.wanted ∷ query_text
    q.question.query ∷ []

wants_tokens : (q : AskedQuestion) → IsReadable q → IsAskable q.question
    → Lexed (wants_text q) (syntax_text q.question.syntax ∷ wanted_text q.question.wanted ∷ query_text
    q.question.query ∷ [])
wants_tokens q r a =
    word_then (syntax_text q.question.syntax)
    (wanted_text q.question.wanted ++ 32 ∷ in_quotes (query_text q.question.query))
    (wanted_text q.question.wanted ∷ query_text q.question.query ∷ []) (syntax_word q.question.syntax r.syntax)
    (word_then (wanted_text q.question.wanted) (in_quotes (query_text q.question.query))
    (query_text q.question.query ∷ []) (wanted_word q.question.wanted a.wanted)
    (quoted (query_text q.question.query)))

ask_tokens : (q : AskedQuestion) (d : List ℕ) → q.question.databases ≡ d ∷ [] → IsReadable q → IsAskable q.question
    → IsLine (ask_text q) (ask_texts q d)
unfolding ask_texts
ask_tokens q d e r a =
    let database : flat_map in_quotes q.question.databases ≡ in_quotes d = ap (flat_map in_quotes) e
    ∙ append-nil (in_quotes d) in
    let tokens : Lexed (codes "ask" ++ 32 ∷ (in_quotes q.name ++ 32 ∷ (in_quotes d ++ 32 ∷ wants_text q)))
    (ask_texts q d) =
    word_then (codes "ask") (in_quotes q.name ++ 32 ∷ (in_quotes d ++ 32 ∷ wants_text q))
    (q.name ∷ d ∷ syntax_text q.question.syntax ∷ wanted_text q.question.wanted ∷ query_text q.question.query ∷ [])
    (word-of (codes "ask") (omega arith) refl)
    (quoted_then q.name (in_quotes d ++ 32 ∷ wants_text q)
    (d ∷ syntax_text q.question.syntax ∷ wanted_text q.question.wanted ∷ query_text q.question.query ∷ [])
    (quoted_then d (wants_text q) (syntax_text q.question.syntax ∷ wanted_text q.question.wanted ∷ query_text
    q.question.query ∷ []) (wants_tokens q r a))) in
    whole (ask_text q) (ask_texts q d)
    (subst (λ (z : List ℕ). Lexed (codes "ask" ++ 32 ∷ (in_quotes q.name ++ 32 ∷ (z ++ 32 ∷ wants_text q)))
    (ask_texts q d)) (sym database) tokens)

-- the question of the line
now : ℕ → AskedQuestion → List ℕ → AskedQuestion
now number q d = record {
  line = number;
  name = q.name;
  end = q.end;
  question = record {
    databases = d ∷ [];
    query = q.question.query;
    syntax = q.question.syntax;
    elements = None;
    wanted = q.question.wanted;
  };
}

question_with : Question → Option (List ℕ) → List (List ℕ) → Question
question_with x elements databases = record
    { databases = databases; query = x.query; syntax = x.syntax; elements = elements; wanted = x.wanted }

question_with_elements : Question → Option (List ℕ) → Question
question_with_elements x elements = question_with x elements x.databases

at_question : AskedQuestion → Question → AskedQuestion
at_question q x = record { line = 0; name = q.name; end = q.end; question = x }

same_question : (x : Question) (d : List ℕ) → x.databases ≡ d ∷ [] → x.elements ≡ None
    → record { databases = d ∷ []; query = x.query; syntax = x.syntax; elements = None; wanted = x.wanted } ≡ x
unfolding question_with question_with_elements
same_question x d e f =
    ap (question_with x None) (sym e) ∙ ap (question_with_elements x) (sym f)

same_unlined : (number : ℕ) (q : AskedQuestion) (d : List ℕ) → q.question.databases ≡ d ∷ []
    → q.question.elements ≡ None → unlined (now number q d) ≡ unlined q
unfolding now at_question
same_unlined number q d e f = ap (at_question q) (same_question q.question d e f)

-- the world with one question more
asked_world : ℕ → ℕ → ℕ → List NamedHost → List AskedQuestion → AskedQuestion → List ℕ → End → World
asked_world s n number hs qs q d end = host_world s n hs (qs ++ record (now number q d) { end = end } ∷ [])

ask_after : (s n number : ℕ) (hs : List NamedHost) (qs : List AskedQuestion) (q : AskedQuestion) (d : List ℕ)
    → q.question.databases ≡ d ∷ [] → IsReadable q → IsAskable q.question → IsSayable q
    → is_among q.name (asked_names qs) ≡ false → end_of q.name [] hs ≡ Some q.end
    → AfterLineText number (ask_text q) (host_world s n hs qs) (host_world s n hs (qs ++ now number q d ∷ []))
unfolding keyword_of ask_texts now asked_world
ask_after s n number hs qs q d is r a y k e = let t = ask_tokens q d is r a in record {
  tokens = t.tokens;
  line = _;
  lexed = t.lexed;
  meaning = ap line_of t.are
      ∙ mapped_both _ (syntax_of (syntax_text q.question.syntax)) (wanted_of (wanted_text q.question.wanted))
      q.question.syntax q.question.wanted (syntax_read q.question.syntax r.syntax a.syntax)
      (wanted_read q.question.wanted a.wanted a.some);
  effect = (
    q.question.query,
    (r.query, leb-true (height q.question.query.root) 32 (and_parts _ _ y.query).0),
    cond-false _ _ _ k ∙ ap (option_map (asked_world s n number hs qs q d)) e,
  );
}

now_names : (qs : List AskedQuestion) (q : AskedQuestion) (number : ℕ) (d : List ℕ)
    → asked_names (qs ++ now number q d ∷ []) ≡ asked_names qs ++ q.name ∷ []
unfolding now
now_names qs q number d = map-append (λ (i : AskedQuestion). i.name) qs (now number q d ∷ [])

-- these lines ask the questions, but for the numbers of lines
record AreRead (s n : ℕ) (hs : List NamedHost) (front : List (List ℕ)) (qs asked : List AskedQuestion) : Type 0 where
  news : List AskedQuestion
  world : AreWorld (front ++ map ask_text asked) (host_world s n hs (qs ++ news))
  same : map unlined news ≡ map unlined asked

questions_read : (s n : ℕ) (hs : List NamedHost) (front : List (List ℕ)) (qs asked : List AskedQuestion)
    → AreWorld front (host_world s n hs qs)
    → AreNew (asked_names qs) (asked_names asked) → AreAtHosts hs asked → AreReadable asked
    → AreAskable (questions_of asked) → first_unsaid unsaid_question asked ≡ None
    → AreRead s n hs front qs asked
questions_read s n hs front qs [] a k e r f u = record {
  news = [];
  world = subst (λ (z : List (List ℕ)). AreWorld z (host_world s n hs (qs ++ []))) (sym (append-nil front))
      (subst (λ (z : List AskedQuestion). AreWorld front (host_world s n hs z)) (sym (append-nil qs)) a);
  same = refl;
}
questions_read s n hs front qs (q ∷ asked) a k e r f u =
    let p = or_none (unsaid_question q) (first_unsaid unsaid_question asked) u in
    let y = sayable q p.0 in
    let d = one_of q.question.databases y.one in
    let number = length front + 1 in
    let next : AreWorld (front ++ ask_text q ∷ []) (host_world s n hs (qs ++ now number q d.0 ∷ [])) =
    more a (ask_after s n number hs qs q d.0 d.1 r.0 f.0 y k.0 e.0) in
    let names : asked_names (qs ++ now number q d.0 ∷ []) ≡ asked_names qs ++ q.name ∷ [] = now_names qs q number d.0 in
    let rest = questions_read s n hs (front ++ ask_text q ∷ []) (qs ++ now number q d.0 ∷ []) asked next
    (subst (λ (z : List (List ℕ)). AreNew z (asked_names asked)) (sym names) k.1) e.1 r.1 f.1 p.1 in
    record {
      news = now number q d.0 ∷ rest.news;
      world = subst (λ (z : List (List ℕ)). AreWorld z (host_world s n hs (qs ++ now number q d.0 ∷ rest.news)))
          (append_assoc front (ask_text q ∷ []) (map ask_text asked))
          (subst (λ (z : List AskedQuestion). AreWorld ((front ++ ask_text q ∷ []) ++ map ask_text asked)
          (host_world s n hs z)) (append_assoc qs (now number q d.0 ∷ []) rest.news) rest.world);
      same = ap₂ (λ (x : AskedQuestion) (xs : List AskedQuestion). x ∷ xs)
          (same_unlined number q d.0 d.1 (none_of q.question.elements y.elements)) rest.same;
    }

-- ---- the whole file

abbrev nothing : IsLine [] []
nothing = record { tokens = []; lexed = tt; are = refl }

numbered : (s n : ℕ) → 0 < s → s ≤ 1000 → 0 < n → n ≤ 64
    → AreWorld (number_text (codes "step") s ∷ number_text (codes "window") n ∷ []) (host_world s n [] [])
numbered s n a b c d =
    let first : AreWorld (number_text (codes "step") s ∷ []) (host_world s 4 [] []) =
    more none (step_after 1 s 4 a b) in
    more first (window_after 2 n s c d)

empty_after : (number : ℕ) (w : World) → AfterLineText number [] w w
empty_after number w =
    record { tokens = nothing.tokens; line = _; lexed = nothing.lexed; meaning = ap line_of nothing.are; effect = refl }

lines_are : (w : World) → w.step < 2 ^ 64 → w.window < 2 ^ 64 → unsaid w ≡ None
    → lines_of (world_text w) ≡ number_text (codes "step") w.step ∷ number_text (codes "window")
    w.window ∷ (map host_text w.hosts ++ (map ask_text w.questions ++ [] ∷ []))
lines_are w s n u =
    let p = or_none (first_unsaid unsaid_host w.hosts) (first_unsaid unsaid_question w.questions) u in
    ended_then (number_text (codes "step") w.step)
    (ended (number_text (codes "window") w.window) ++ (flat_map host_line w.hosts ++ flat_map ask_line w.questions))
    (number_feedless (codes "step") w.step refl s)
    ∙ ap (λ (z : List (List ℕ)). number_text (codes "step") w.step ∷ z)
    (ended_then (number_text (codes "window") w.window) (flat_map host_line w.hosts ++ flat_map ask_line w.questions)
    (number_feedless (codes "window") w.window refl n)
    ∙ ap (λ (z : List (List ℕ)). number_text (codes "window") w.window ∷ z)
    (lines_then host_text w.hosts (flat_map ask_line w.questions) (hosts_feedless w.hosts p.0)
    ∙ ap (λ (z : List (List ℕ)). map host_text w.hosts ++ z)
    (ap lines_of (sym (append-nil (flat_map ask_line w.questions)))
    ∙ lines_then ask_text w.questions [] (questions_feedless w.questions p.1))))

pub reads : ReadAgain
reads w fit of readable u =
    let f = fit.settings [] (omega arith) in
    let p = or_none (first_unsaid unsaid_host w.hosts) (first_unsaid unsaid_question w.questions) u in
    let step = number_text (codes "step") w.step in
    let window = number_text (codes "window") w.window in
    let hosts = hosts_read w.step w.window (step ∷ window ∷ []) [] w.hosts
    (numbered w.step w.window f.steps f.most f.room f.widest) of.hosts in
    let asked = questions_read w.step w.window w.hosts (step ∷ window ∷ map host_text w.hosts) [] w.questions hosts
    of.asked of.ends readable fit.askable p.1 in
    let world = host_world w.step w.window w.hosts asked.news in
    let last : AreWorld ((step ∷ window ∷ (map host_text w.hosts ++ map ask_text w.questions)) ++ [] ∷ []) world =
    more asked.world
    (empty_after (length (step ∷ window ∷ (map host_text w.hosts ++ map ask_text w.questions)) + 1) world) in
    record {
      world = world;
      reads = subst (λ (z : List (List ℕ)). AreWorld z world)
          (ap (λ (z : List (List ℕ)). step ∷ window ∷ z)
          (append_assoc (map host_text w.hosts) (map ask_text w.questions) ([] ∷ []))
          ∙ sym (lines_are w (omega (arith, f.most)) (omega (arith, f.widest)) u))
          last;
      same = record {
        step = refl;
        window = refl;
        targets = sym of.targets;
        hosts = refl;
        questions = asked.same;
        moves = sym of.moves;
      };
    }
