-- A label from its Mapping to its end, in both orders of the Withdraw's ACK and the Release: its codes at each stage.
use Rattle.std.specs.Prelude.{ℕ, Bool, true, false, List, [], ◌∷◌}
use Rattle.two_ends.specs.Runs.{Event, submits, sends, run}
use Rattle.two_ends.specs.World.{World}
use Rattle.two_ends_runs.specs.Cabinets.{mapping, withdraw, release, room, send, alive, deliver}
use Rattle.two_ends_runs.specs.Race.{Labels, labels}

-- what is seen after each stage of a run
abbrev pub stages : World → List (List (Bool × Event)) → List Labels
stages w [] = []
stages w (vs ∷ rest) = labels (run w vs) ∷ stages (run w vs) rest

-- with nothing under way: the code of 16 that a has given and that b uses, and what a and b hold
abbrev pub codes : ℕ → ℕ → List (List ℕ) → List (List ℕ) → Labels
codes given used held theirs = record { held = held; theirs = theirs; out = []; back = []; given = given; used = used; started = true; unreleased = true }

-- a gives label 16, b uses it and acknowledges the Mapping; a withdraws it, and b is asked for it back
abbrev pub asked : List (List (Bool × Event))
asked =
    ((true, submits (mapping 1)) ∷ [])
    ∷ (send true ∷ deliver false ∷ [])
    ∷ (alive false ∷ deliver true ∷ [])
    ∷ ((true, submits (withdraw 2)) ∷ [])
    ∷ (send true ∷ deliver false ∷ [])
    ∷ []

-- "Mapping, absent .., becomes 1"; "Received: Mapping protected, absent .. becomes 3"; the ACK of a Mapping changes no code; "Withdraw, 1 becomes 2", and
-- sending it frees nothing; "Withdraw: 3 becomes 4"
abbrev pub asked-codes : List Labels
asked-codes =
    codes 1 0 (mapping 1 ∷ []) []
    ∷ codes 1 3 (mapping 1 ∷ []) []
    ∷ codes 1 3 [] []
    ∷ codes 2 3 (withdraw 2 ∷ []) []
    ∷ codes 2 4 (withdraw 2 ∷ []) []
    ∷ []

-- first the ACK of the Withdraw, then b's Release, and its ACK
abbrev pub acked_first : List (List (Bool × Event))
acked_first =
    (alive false ∷ deliver true ∷ [])
    ∷ ((false, submits (release 3)) ∷ [])
    ∷ (send false ∷ deliver true ∷ [])
    ∷ (alive true ∷ deliver false ∷ [])
    ∷ []

-- 02: "Free a withdrawn label at the second of Release and ACK. Codes 8 (the ACK) and 9 (the Release) say which one has come"; 01: "Release, .. 4 becomes free"
abbrev pub acked_first_codes : List Labels
acked_first_codes =
    codes 8 4 [] []
    ∷ codes 8 0 [] (release 3 ∷ [])
    ∷ codes 0 0 [] (release 3 ∷ [])
    ∷ codes 0 0 [] []
    ∷ []

-- first b's Release, which bears no ACK, then the ACK of the Withdraw, and that of the Release
abbrev pub released_first : List (List (Bool × Event))
released_first =
    ((false, submits (release 3)) ∷ [])
    ∷ ((false, sends false room) ∷ deliver true ∷ [])
    ∷ (alive false ∷ deliver true ∷ [])
    ∷ (alive true ∷ deliver false ∷ [])
    ∷ []

abbrev pub released_first_codes : List Labels
released_first_codes =
    codes 2 0 (withdraw 2 ∷ []) (release 3 ∷ [])
    ∷ codes 9 0 (withdraw 2 ∷ []) (release 3 ∷ [])
    ∷ codes 0 0 [] (release 3 ∷ [])
    ∷ codes 0 0 [] []
    ∷ []

-- ---- a label is mapped anew before the peer has given it back
-- the ACK of the Withdraw has come, and a maps 16 again: it is refused (6). b releases 16; a maps it, and b uses it.
-- Before 02's ticket 4 the ACK alone freed 16. The Mapping was taken, b stayed at 4, its Release freed what a had just given, and in the end neither listed 16, with every answer 0
abbrev pub acknowledged : List (List (Bool × Event))
acknowledged = (alive false ∷ deliver true ∷ []) ∷ []

abbrev pub mapped_anew : List (List (Bool × Event))
mapped_anew =
    ((true, submits (mapping 3)) ∷ [])
    ∷ ((false, submits (release 4)) ∷ send false ∷ deliver true ∷ [])
    ∷ ((true, submits (mapping 5)) ∷ send true ∷ deliver false ∷ [])
    ∷ (alive false ∷ deliver true ∷ [])
    ∷ []

abbrev pub mapped_anew-codes : List Labels
mapped_anew-codes =
    codes 8 4 [] []
    ∷ codes 0 0 [] (release 4 ∷ [])
    ∷ codes 1 3 (mapping 5 ∷ []) []
    ∷ codes 1 3 [] []
    ∷ []

-- the world after these stages
abbrev pub through : World → List (List (Bool × Event)) → World
through w [] = w
through w (vs ∷ rest) = through (run w vs) rest
