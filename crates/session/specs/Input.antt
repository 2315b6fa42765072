-- What reading an input promises. Which bytes a read of standard input hands over no contract can say, so they are any;
-- what was done with them is said, read after read, and where it is known what an input gives, that they are what it
-- gave.
use Rattle.std.specs.Prelude.{◌≡◌, ◌++◌, ℕ, suc, length, take, ⊤, Option, Result, Ok, Err}
use Rattle.std.specs.Io.KnownBytes.{Consumes}
use Rattle.stdin.specs.Stdin.{PossibleRead}
use Rattle.stdin.specs.Star.{Star}
use Rattle.text.specs.Text.{Bytes}
use Rattle.session.specs.Answer.{Memory, SessionState}
use Rattle.session.specs.Feed.{FeedRequires, FeedInvariant, FeedProgress, FeedLost, TakesIn, FeedEnsures}
use Rattle.session.specs.declared.output.WriteFailed.{WriteFailed}
use Rattle.session.specs.declared.outcome.Stopped.{Stopped}
use Rattle.session.specs.declared.outcome.Stopped.TheVariants.{ReadFailed, WriteFailed as Unwritten}

-- the bytes that came, so many and whatever a read put into its buffer, were taken in, all and in order
pub record TakeEnsures (count : ℕ) (m : Memory) (h : SessionState) (m' : Memory) (h' : SessionState)
    (r : Result ⊤ WriteFailed) : Type 0 where
  pub part : Bytes
  pub possible : PossibleRead (length part) (Ok count)
  pub feeds : FeedEnsures (take count part) m h m' h' r

-- a read, and how many bytes it brought; where it failed nothing was taken in
abbrev pub ReadEnsures : Memory → SessionState → Memory → SessionState → Result ℕ Stopped → Type 0
ReadEnsures m h m' h' (Ok count) = TakeEnsures count m h m' h' (Ok tt)
ReadEnsures m h m' h' (Err Unwritten) = (count : ℕ) × TakeEnsures count m h m' h' (Err (record {}))
ReadEnsures m h m' h' (Err ReadFailed) = (h' ≡ h) × (m' ≡ m)

-- what holds between two reads: some input was taken in, and no write has failed
pub record InputInvariant (m : Memory) (h : SessionState) : Type 0 where
  pub text : Bytes
  pub lines : ℕ
  pub invariant : FeedInvariant text lines m h

-- the memory after a read, and what it left
pub record Point : Type 0 where
  pub memory : Memory
  pub state : SessionState

-- one read more: it brought bytes, and every answer was written
pub record ReadStep (a b : Point) : Type 0 where
  pub more : ℕ
  pub read : ReadEnsures a.memory a.state b.memory b.state (Ok (suc more))

-- After them came the read that said that the input has ended; or one that failed or whose answers could not all be
-- written.
abbrev pub LastRead : Point → Memory → SessionState → Result ⊤ Stopped → Type 0
LastRead a m h (Ok _) = ReadEnsures a.memory a.state m h (Ok 0)
LastRead a m h (Err e) = ReadEnsures a.memory a.state m h (Err e)

-- read after read, each of which brought bytes and whose answers were all written
abbrev pub ReadsMore : Memory → SessionState → Point → Type 0
ReadsMore m₀ h₀ a = Star ReadStep (record { memory = m₀; state = h₀ }) a

-- Read after read, to the last one.
pub record Reads (m₀ : Memory) (h₀ : SessionState) (m : Memory) (h : SessionState) (r : Result ⊤ Stopped) : Type 0 where
  pub before : Point
  pub more : ReadsMore m₀ h₀ before
  pub last : LastRead before m h r

-- The input was taken in. Where an answer could not be written, no line after its line was run. Each line that was run
-- since has had one write.
abbrev pub Received : Bytes → ℕ → SessionState → Memory → SessionState → Result ⊤ Stopped → Type 0
Received text n h₀ m h (Ok _) = FeedProgress text n h₀ m h
Received text n h₀ m h (Err ReadFailed) = FeedProgress text n h₀ m h
Received text n h₀ m h (Err Unwritten) = FeedLost text n h₀ m h

-- Whatever was taken in before, the bytes that came were taken in after it.
pub record ReceiveEnsures (m₀ : Memory) (h₀ : SessionState) (m : Memory) (h : SessionState)
    (r : Result ⊤ Stopped) : Type 0 where
  pub requires : FeedRequires m h
  pub came : Bytes
  pub received : (i : InputInvariant m₀ h₀) → Received (i.text ++ came) i.lines h₀ m h r
  pub reads : Reads m₀ h₀ m h r

-- whether all answers were written, where reading may have failed
abbrev pub writing_of : {A : Type 0} → Result A Stopped → Result ⊤ WriteFailed
writing_of (Ok x) = Ok tt
writing_of (Err ReadFailed) = Ok tt
writing_of (Err Unwritten) = Err (record {})

-- the bytes that were taken in came from an input of which it may be known what it gives (w before them, w' after them)
pub record Taken (w w' : Option Bytes) (m : Memory) (h : SessionState) (m' : Memory) (h' : SessionState)
    (r : Result ⊤ WriteFailed) : Type 0 where
  pub came : Bytes
  pub takes : TakesIn came m h m' h' r
  pub consumes : Consumes w w' came

-- used by the proofs alone

-- between two reads
pub record ReceiveLoop (m₀ : Memory) (h₀ : SessionState) (m : Memory) (h : SessionState) : Type 0 where
  pub came : Bytes
  pub takes : TakesIn came m₀ h₀ m h (Ok tt)
  pub more : ReadsMore m₀ h₀ (record { memory = m; state = h })
