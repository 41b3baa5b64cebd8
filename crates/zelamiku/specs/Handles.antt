-- What a handle has, by its kind, and what a call of it is answered (this project's own).
use Rattle.std.specs.Prelude.{ℕ, ◌≡◌, List, Option, Some, None}
use Rattle.host_heap.specs.Hosting.{Hosting}
use Rattle.host_heap.specs.Sessions.{Seated, SeatedWaiting}
use Rattle.host_heap.specs.Stopping.{Stopping}
use Rattle.host_heap.specs.declared.closing.Closed.{Closed}
use Rattle.host_journal.specs.Hosted.{Hosted}
use Rattle.session.specs.declared.session.Session.{Session}
use Rattle.zelamiku.specs.Own.{Held}
use Rattle.zelamiku.specs.declared.state.Open.{Open}
use Rattle.zelamiku.specs.declared.state.Open.TheVariants as kind
use Rattle.zelamiku.specs.declared.status.TheConstants.{CLOSED, NOTHING, STOPPED, WRONG_KIND}

-- nothing
abbrev pub nothing_held : Held
nothing_held = None

-- this
abbrev pub holding : Open → Held
holding x = Some (record { «open» = x })

-- a heap that runs
abbrev pub heap_held : Hosting → Held
heap_held x = holding (kind.Heap x)

-- a heap that was closed
abbrev pub closed_held : Closed → Held
closed_held x = holding (kind.Closed x)

-- a heap that has stopped, of which this word is left, or nothing
abbrev pub stopped_held : Option Stopping → Held
stopped_held word = holding (kind.Stopped word)

-- a session
abbrev pub session_held : Seated → Held
session_held s = holding (kind.Session s)

-- a session that waits
abbrev pub waiting_held : SeatedWaiting → Held
waiting_held w = holding (kind.Waiting w)

-- what is left of a session that has ended: what went through the ring by which it came back
abbrev pub ended_held : List Session → Held
ended_held back = holding (kind.Ended back)

-- a journal
abbrev pub journal_held : Hosted → Held
journal_held j = holding (kind.Journal j)

-- A call that a heap answers while it runs. One that was closed, or has stopped, and what is no heap stay as they are, and the status says so.
abbrev pub OfHeap : (Hosting → (after : Held) → (status : ℕ) → Type 0) → Open → (after : Held) → (status : ℕ) → Type 0
OfHeap p (kind.Heap x) after status = p x after status
OfHeap p (kind.Closed x) after status = (status ≡ CLOSED) × (after ≡ closed_held x)
OfHeap p (kind.Stopped word) after status = (status ≡ STOPPED) × (after ≡ stopped_held word)
OfHeap p other after status = (status ≡ WRONG_KIND) × (after ≡ holding other)

-- A call that a heap answers while it runs (`p`), and once it was closed, for its last calls (`q`).
abbrev pub OfDevice : (p : Hosting → (after : Held) → (status : ℕ) → Type 0) (q : Closed → (after : Held) → (status : ℕ) → Type 0)
    → Open → (after : Held) → (status : ℕ) → Type 0
OfDevice p q (kind.Heap x) after status = p x after status
OfDevice p q (kind.Closed x) after status = q x after status
OfDevice p q (kind.Stopped word) after status = (status ≡ STOPPED) × (after ≡ stopped_held word)
OfDevice p q other after status = (status ≡ WRONG_KIND) × (after ≡ holding other)

-- A call that a journal answers. What is no journal stays as it is, and the status says so.
abbrev pub OfJournal : (Hosted → (after : Held) → (status : ℕ) → Type 0) → Open → (after : Held) → (status : ℕ) → Type 0
OfJournal p (kind.Journal j) after status = p j after status
OfJournal p other after status = (status ≡ WRONG_KIND) × (after ≡ holding other)

-- A call of a host, for what hands calls over: a heap that runs (`p`), one that was closed (`q`), or a journal (`r`).
abbrev pub OfHost : (p : Hosting → (after : Held) → (status : ℕ) → Type 0) (q : Closed → (after : Held) → (status : ℕ) → Type 0)
    (r : Hosted → (after : Held) → (status : ℕ) → Type 0) → Open → (after : Held) → (status : ℕ) → Type 0
OfHost p q r (kind.Journal j) after status = r j after status
OfHost p q r other after status = OfDevice p q other after status

-- A call of a handle: the handle has this before and after, and the status is what C is answered. `p` is the call of what the handle has.
-- An empty handle stays empty.
abbrev pub Answers : (p : Open → (after : Held) → (status : ℕ) → Type 0) → (before after : Held) (status : ℕ) → Type 0
Answers p None after status = (status ≡ NOTHING) × (after ≡ nothing_held)
Answers p (Some before) after status = p before.«open» after status
