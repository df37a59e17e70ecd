-- The operations planned for one target, and the events of its connection (Z39.50-2003, 3.2.1.1, 3.2.2.1 and 3.2.3.1).
use Rattle.std.specs.Prelude.{◌≡◌, ◌⊎◌, ℕ, ◌+◌, ◌-◌, ◌*◌, ◌<◌, ◌≤◌, Bool, true, false, ◌&&◌, ◌==◌, if◌then◌else◌, List, [], ◌∷◌, length, take, drop, Option, None, Some}
use Rattle.std.specs.List.{range_with_len}
use Rattle.zplan.specs.Positions.{up_to, cut_of, presents, first_of, IsIn}

-- an operation; a Present asks a list of positions
pub data Operation : Type 0 where
  Init : Operation
  Search : Operation
  Present : List ℕ → Operation

-- the part of a reply that decides what is planned next
pub data Reply : Type 0 where
  InitReply : (search three : Bool) → Reply  -- whether the search can be sent; whether version 3 is in force
  SearchReply : Option ℕ → Reply  -- the count, if the search succeeded and records can be asked for
  PresentReply : ℕ → Reply  -- the number of records; 0 if diagnostics came

-- the reply to each operation, if it has one
abbrev pub Replies : Type 0
Replies = Operation → Option Reply

-- the number of an operation
abbrev pub number : Operation → ℕ
number Init = 0
number Search = 1
number (Present l) = first_of l + 1

-- The planned operations, the least set: Init; the search, if the reply to Init lets it be sent; the Presents of the
-- lists that the wanted positions up to the count are cut into by step; and a Present of the rest of each list that was
-- answered in part.
pub data IsPlanned (wanted : List ℕ) (step : ℕ) (replies : Replies) : Operation → Type 0 where
  first : IsPlanned wanted step replies Init
  search : (three : Bool) → IsPlanned wanted step replies Init → replies Init ≡ Some (InitReply true three)
      → IsPlanned wanted step replies Search
  cut : (three : Bool) (count i : ℕ) (l : List ℕ) → IsPlanned wanted step replies Search
      → replies Init ≡ Some (InitReply true three)
      → replies Search ≡ Some (SearchReply (Some count)) → i * step < length (up_to count wanted)
      → IsIn l (presents three (cut_of step (up_to count wanted) i))
      → IsPlanned wanted step replies (Present l)
  rest : (l : List ℕ) (k : ℕ) → IsPlanned wanted step replies (Present l) → replies (Present l) ≡ Some (PresentReply k)
      → 0 < k → k < length l → IsPlanned wanted step replies (Present (drop k l))

-- the lists have the same positions, in the same order
abbrev pub eq_list : List ℕ → List ℕ → Bool
eq_list [] [] = true
eq_list [] (q ∷ qs) = false
eq_list (p ∷ ps) [] = false
eq_list (p ∷ ps) (q ∷ qs) = (p == q) && eq_list ps qs

-- the operations are equal
abbrev pub same : Operation → Operation → Bool
same Init Init = true
same Search Search = true
same (Present l) (Present m) = eq_list l m
same Init Search = false
same Init (Present m) = false
same Search Init = false
same Search (Present m) = false
same (Present l) Init = false
same (Present l) Search = false

-- an event of one connection: an operation was sent, its reply was accepted, or Close was sent; lists of events have
-- the newest first
pub data PlanEvent : Type 0 where
  RequestSent : Operation → PlanEvent
  ReplyAccepted : Operation → Reply → PlanEvent
  CloseSent : PlanEvent

-- the replies accepted so far
abbrev pub replies_in : List PlanEvent → Replies
replies_in [] a = None
replies_in (RequestSent b ∷ events) a = replies_in events a
replies_in (ReplyAccepted b r ∷ events) a = if same b a then Some r else replies_in events a
replies_in (CloseSent ∷ events) a = replies_in events a

-- the operations sent so far
abbrev pub asked_in : List PlanEvent → List Operation
asked_in [] = []
asked_in (RequestSent b ∷ events) = b ∷ asked_in events
asked_in (ReplyAccepted b r ∷ events) = asked_in events
asked_in (CloseSent ∷ events) = asked_in events

-- the first positions of the Presents among them
abbrev pub firsts : List Operation → List ℕ
firsts [] = []
firsts (Init ∷ asks) = firsts asks
firsts (Search ∷ asks) = firsts asks
firsts (Present l ∷ asks) = first_of l ∷ firsts asks

-- the count in a reply, 0 if it has none
abbrev pub count_of_reply : Option Reply → ℕ
count_of_reply None = 0
count_of_reply (Some (InitReply b t)) = 0
count_of_reply (Some (SearchReply None)) = 0
count_of_reply (Some (SearchReply (Some count))) = count
count_of_reply (Some (PresentReply k)) = 0

-- the count that the reply to the search has, or 0
abbrev pub count_in : Replies → ℕ
count_in replies = count_of_reply (replies Search)

-- Close was sent
abbrev pub HasClosed : List PlanEvent → Type 0
HasClosed [] = ⊥
HasClosed (RequestSent a ∷ events) = HasClosed events
HasClosed (ReplyAccepted a r ∷ events) = HasClosed events
HasClosed (CloseSent ∷ events) = Unit {0}

-- the reply to Init lets no search be sent
abbrev pub WasRefused : Replies → Type 0
WasRefused replies = (three : Bool) × (replies Init ≡ Some (InitReply false three))

module _ (wanted : List ℕ) (step : ℕ) where
  -- the operation is planned, and not sent yet
  abbrev pub IsDue : List PlanEvent → Operation → Type 0
  IsDue events a = IsPlanned wanted step (replies_in events) a × (IsIn a (asked_in events) → ⊥)

  -- all planned operations were answered
  abbrev pub IsPlanAnswered : List PlanEvent → Type 0
  IsPlanAnswered events =
      (a : Operation) → IsPlanned wanted step (replies_in events) a → (r : Reply) × (replies_in events a ≡ Some r)

  -- Only operations that are due are sent. Each reply is the only one to an operation that was sent. Close is sent only
  -- after all planned operations were answered.
  abbrev pub IsDriven : List PlanEvent → Type 0
  IsDriven [] = Unit {0}
  IsDriven (RequestSent a ∷ events) = IsDue events a × IsDriven events
  IsDriven (ReplyAccepted a r ∷ events) = IsIn a (asked_in events) × (replies_in events a ≡ None) × IsDriven events
  IsDriven (CloseSent ∷ events) = IsPlanAnswered events × IsDriven events

  -- Close was sent, or the reply to Init lets no search be sent
  pub record IsComplete (events : List PlanEvent) : Type 0 where
    pub driven : IsDriven events
    pub ended : HasClosed events ⊎ WasRefused (replies_in events)

  -- the operations that a reply makes due
  pub data IsMadeDue (replies : Replies) : Operation → Reply → Operation → Type 0 where
    new_search : (three : Bool) → IsMadeDue replies Init (InitReply true three) Search
    new_cut : (three : Bool) (count i : ℕ) (l : List ℕ) → replies Init ≡ Some (InitReply true three)
        → i * step < length (up_to count wanted) → IsIn l (presents three (cut_of step (up_to count wanted) i))
        → IsMadeDue replies Search (SearchReply (Some count)) (Present l)
    new_rest : (l : List ℕ) (k : ℕ) → 0 < k → k < length l
        → IsMadeDue replies (Present l) (PresentReply k) (Present (drop k l))

  -- each planned Present was answered, with one record at least and no more than its list has positions
  abbrev pub HasRecordsForEach : Replies → Type 0
  HasRecordsForEach replies =
      (l : List ℕ) → IsPlanned wanted step replies (Present l)
      → (k : ℕ) × (replies (Present l) ≡ Some (PresentReply k)) × (0 < k) × (k ≤ length l)

  -- the reply to some planned Present has the record at this position
  pub record IsShownPosition (replies : Replies) (position : ℕ) : Type 0 where
    pub list : List ℕ
    pub shows : ℕ
    pub asked : IsPlanned wanted step replies (Present list)
    pub answered : replies (Present list) ≡ Some (PresentReply shows)
    pub among : IsIn position (take shows list)

-- an operation that has a reply in both has the same reply in both
abbrev pub AreCompatible : Replies → Replies → Type 0
AreCompatible one other = (a : Operation) (r s : Reply) → one a ≡ Some r → other a ≡ Some s → r ≡ s

-- consecutive positions
abbrev pub IsRunList : List ℕ → Type 0
IsRunList l = l ≡ range_with_len (first_of l) (length l)

-- the first position that an operation asks for; 0 for Init and the search
abbrev pub start_of : Operation → ℕ
start_of Init = 0
start_of Search = 0
start_of (Present l) = first_of l

-- how many operations wait for a reply
abbrev pub outstanding_in : List PlanEvent → ℕ
outstanding_in [] = 0
outstanding_in (RequestSent a ∷ events) = outstanding_in events + 1
outstanding_in (ReplyAccepted a r ∷ events) = outstanding_in events - 1
outstanding_in (CloseSent ∷ events) = outstanding_in events

-- What the driver does next. While fewer operations than `window` are outstanding, it sends the operation that is due
-- with the least first position. If nothing is due or outstanding, it sends Close.
abbrev pub IsNextEvent : List ℕ → ℕ → ℕ → List PlanEvent → PlanEvent → Type 0
IsNextEvent wanted step window events (RequestSent a) =
    IsDue wanted step events a × (outstanding_in events < window)
    × ((b : Operation) → IsDue wanted step events b → start_of a ≤ start_of b)
IsNextEvent wanted step window events (ReplyAccepted a r) = ⊥
IsNextEvent wanted step window events CloseSent =
    ((b : Operation) → IsDue wanted step events b → ⊥) × (outstanding_in events ≡ 0)
