-- Whatever a table says is read as it is written, and built as it is written.
use Rattle.std.proofs.Common.{◌≡◌, List, ◌++◌, Ok, true, refl, sym, ap, subst, ◌∙◌}
use Rattle.zber.specs.Elements.{Element}
use Rattle.zber.specs.Tags.{apart}
use Rattle.zasn_tables.specs.Laws.{IsLawfulPlace, IsReader, IsMisfit, IsExact, IsSpelled, IsBuilder}
use Rattle.zasn_tables.specs.Place.{Place}
use Rattle.zasn_tables.specs.Table.{ComponentTable, ended, required, optional, also, Elements, Fields, fields, Maker, make_of, TableWrites, walk, put, tags_of, clear}
use Rattle.zber.proofs.Tests.{both_true}
use Rattle.zasn_tables.proofs.Readings.{end_read, required_read, optional_read, mapped_read}
use Rattle.zasn_tables.proofs.Builds.{end_made, required_made, optional_made}

pub is_place : {A : Type 0} (p : Place A) → IsLawfulPlace p.writes p.tags p.meaning
is_place p = record { some = p.some; begins = p.begins; reads = p.reads; finds = p.finds }

pub is_spelled : {A : Type 0} (p : Place A) → IsSpelled p.writes p.spelling
is_spelled p = record { makes = p.makes; none = p.none }

pub table_read : {V W : Type 0} (t : ComponentTable V) (make : Maker t W) → clear t ≡ true → IsReader (TableWrites t) (make_of t make) (walk t make) (tags_of t)
table_read ended make c = end_read make
table_read (required p get more) make c =
    required_read p.writes p.tags p.meaning (is_place p) (TableWrites more) (λ x. make_of more (make x.0) x.1) (λ a. walk more (make a)) (tags_of more)
    (λ a. table_read more (make a) c)
table_read (optional p get more) make c =
    let h = both_true (apart p.tags (tags_of more)) (clear more) c in
    optional_read p.writes p.tags p.meaning (is_place p) (TableWrites more) (λ x. make_of more (make x.0) x.1) (λ o. walk more (make o)) (tags_of more)
    (λ o. table_read more (make o) h.1) h.0
table_read (also e get) make c = mapped_read e.writes (λ w. w) e.at e.tags make e.read

pub table_made : {V : Type 0} (t : ComponentTable V) → IsBuilder (TableWrites t) (λ out x. put t x out)
table_made ended = end_made
table_made (required p get more) = required_made p.writes p.spelling (is_spelled p) (TableWrites more) (λ out x. put more x out) (table_made more)
table_made (optional p get more) = optional_made p.writes p.spelling (is_spelled p) (TableWrites more) (λ out x. put more x out) (table_made more)
table_made (also e get) = e.build

-- the same of a value that has the table's fields
module _ {V : Type 0} (t : ComponentTable V) (maker : Maker t V) (same : (v : V) → make_of t maker (fields t v) ≡ v) (back : (x : Fields t) → fields t (make_of t maker x) ≡ x) where
  abbrev make : Fields t → V
  make = make_of t maker

  abbrev ValueWrites : V → List Element → Type 0
  ValueWrites v = TableWrites t (fields t v)

  moved : (x y : Fields t) (ns : List Element) → x ≡ y → TableWrites t x ns → TableWrites t y ns
  moved x y ns e h = subst (λ (z : Fields t). TableWrites t z ns) e h

  value_fails : (ns r : List Element) → IsMisfit (TableWrites t) ns r → IsMisfit ValueWrites ns r
  value_fails ns r m = record {
    front = m.front;
    parts = m.parts;
    goes = (make m.goes.0, m.goes.1, moved m.goes.0 (fields t (make m.goes.0)) (m.front ++ m.goes.1) (sym (back m.goes.0)) m.goes.2);
    stops = λ n after e v more h. m.stops n after e (fields t v) more h;
  }

  pub value_read : clear t ≡ true → IsReader ValueWrites (λ v. v) (walk t maker) (tags_of t)
  value_read c =
      let r = table_read t maker c in
      record {
        some = let s = r.some in (make s.0, s.1, moved s.0 (fields t (make s.0)) s.1 (sym (back s.0)) s.2);
        begins = λ v n ns h. r.begins (fields t v) n ns h;
        reads = λ ns v e. let h = r.reads ns v e in (v, refl, moved h.0 (fields t v) ns (sym (back h.0) ∙ ap (fields t) h.1) h.2);
        finds = λ v ns h. r.finds (fields t v) ns h ∙ ap (λ (w : V). Ok w) (same v);
        fails = λ ns s e. value_fails ns s (r.fails ns s e);
      }

  pub value_made : IsBuilder ValueWrites (λ out v. put t (fields t v) out)
  value_made =
      let m = table_made t in
      record {
        makes = λ out v new e. m.makes out (fields t v) new e;
        none = λ out v e ns h. m.none out (fields t v) e ns h;
      }

pub elements_exact : {V : Type 0} (e : Elements V) → IsExact e.writes e.at
elements_exact e = record {
  reads = λ ns v f. let h = e.read.reads ns v f in subst (λ (w : _). e.writes w ns) h.1 h.2;
  finds = λ ns v h. e.read.finds v ns h;
  fails = e.read.fails;
}

-- ---- an element around elements
