-- A production as a table: its places in order, each with the field that holds the value.
use Rattle.std.specs.Prelude.{List, [], ◌++◌, Option, Some, Result, Ok, Bool, true, ◌&&◌}
use Rattle.zber.specs.AsnTags.{AsnTag}
use Rattle.zber.specs.Elements.{Element}
use Rattle.zasn_tables.specs.Standing.{required as one, optional as perhaps, ended as no_more}
use Rattle.zber.specs.Tags.{apart}
use Rattle.zasn_tables.specs.Reading.{◌>>=◌, optional_at, required_at, ended_at}
use Rattle.zasn_tables.specs.Building.{◌>>=◌ as and_then, required_put, optional_put}
use Rattle.zasn_tables.specs.Place.{Place}
use Rattle.zasn_tables.specs.Laws.{IsReader, IsBuilder}

-- The elements of a value of V, up to the last: which they are, how they are read, and how they are built.
pub record Elements (V : Type 0) : Type 1 where
  pub tags : List AsnTag
  pub writes : V → List Element → Type 0
  pub at : List Element → Result V (List Element)
  pub spelling : V → List Element → Option (List Element)
  pub read : IsReader writes (λ v. v) at tags
  pub build : IsBuilder writes (λ out v. spelling v out)

-- The places in order, up to the end or to a table of the last places.
pub data ComponentTable (V : Type 0) : Type 1 where
  ended : ComponentTable V
  required : {A : Type 0} → Place A → (V → A) → ComponentTable V → ComponentTable V
  optional : {A : Type 0} → Place A → (V → Option A) → ComponentTable V → ComponentTable V
  also : {W : Type 0} → Elements W → (V → W) → ComponentTable V

-- a place, and then those that follow
infixr 5 ◌⨾◌
-- one place before the others
abbrev pub ◌⨾◌ : {V : Type 0} → (ComponentTable V → ComponentTable V) → ComponentTable V → ComponentTable V
place ⨾ more = place more

-- the values of the places, and these values in a value of V
abbrev pub Fields : {V : Type 0} → ComponentTable V → Type 0
Fields ended = Unit {0}
Fields (required {A = A} p get more) = A × Fields more
Fields (optional {A = A} p get more) = Option A × Fields more
Fields (also {W = W} e get) = W

-- the values that a value of V has at the places, in their order
abbrev pub fields : {V : Type 0} (t : ComponentTable V) → V → Fields t
fields ended v = tt
fields (required p get more) v = (get v, fields more v)
fields (optional p get more) v = (get v, fields more v)
fields (also e get) v = get v

-- what makes a W of the values of the places, one after the other
abbrev pub Maker : {V : Type 0} → ComponentTable V → Type 0 → Type 0
Maker ended W = W
Maker (required {A = A} p get more) W = A → Maker more W
Maker (optional {A = A} p get more) W = Option A → Maker more W
Maker (also {W = B} e get) W = B → W

-- the W that it makes
abbrev pub make_of : {V W : Type 0} (t : ComponentTable V) → Maker t W → Fields t → W
make_of ended make x = make
make_of (required p get more) make x = make_of more (make x.0) x.1
make_of (optional p get more) make x = make_of more (make x.0) x.1
make_of (also e get) make x = make x

-- the elements have these values, place by place
abbrev pub TableWrites : {V : Type 0} (t : ComponentTable V) → Fields t → List Element → Type 0
TableWrites ended x = no_more
TableWrites (required p get more) x = one p.writes x.0 (TableWrites more x.1)
TableWrites (optional p get more) x = perhaps p.writes x.0 (TableWrites more x.1)
TableWrites (also e get) x = e.writes x

-- reading from left to right
abbrev pub walk : {V W : Type 0} (t : ComponentTable V) → Maker t W → List Element → Result W (List Element)
walk ended make ns = ended_at ns >>= λ _. Ok make
walk (required p get more) make ns = required_at p.tags p.meaning ns >>= λ a. walk more (make a.0) a.1
walk (optional p get more) make ns = optional_at p.tags p.meaning ns >>= λ a. walk more (make a.0) a.1
walk (also e get) make ns = e.at ns >>= λ w. Ok (make w)

-- building from left to right
abbrev pub put : {V : Type 0} (t : ComponentTable V) → Fields t → List Element → Option (List Element)
put ended x out = Some out
put (required p get more) x out = and_then (required_put p.spelling x.0 out) (λ a. put more x.1 a)
put (optional p get more) x out = and_then (optional_put p.spelling x.0 out) (λ a. put more x.1 a)
put (also e get) x out = e.spelling x out

-- the tags of all places
abbrev pub tags_of : {V : Type 0} → ComponentTable V → List AsnTag
tags_of ended = []
tags_of (required p get more) = p.tags ++ tags_of more
tags_of (optional p get more) = p.tags ++ tags_of more
tags_of (also e get) = e.tags

-- no place that may be left out has a tag of what may follow it
abbrev pub clear : {V : Type 0} → ComponentTable V → Bool
clear ended = true
clear (required p get more) = clear more
clear (optional p get more) = apart p.tags (tags_of more) && clear more
clear (also e get) = true
