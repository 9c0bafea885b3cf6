-- What a call reads of its packet once, and hands on to each step.
--
--   ReadOff p counters h b == the header h of the packet p, and the byte b of its PID in the counter table
use Rattle.std.specs.Prelude.{◌≡◌, List, ℕ, get_or}
use Rattle.header.specs.declared.Header.{Header}
use Rattle.header.specs.Header.{pid_of, header_of}

pub record ReadOff (p counters : List ℕ) (h : Header) (b : ℕ) : Type 0 where
  pub header : h ≡ header_of p
  pub byte : b ≡ get_or counters (pid_of p) 0
