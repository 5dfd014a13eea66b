-- An aid of speed: which further block is told, by what stood at the place already. No call's meaning rests on it.
use Rattle.std.specs.Prelude.{ℕ, zero, suc, ◌-◌, ◌*◌, List, eqb, get_or}
use Rattle.octets.specs.Pick.{pick}
use Rattle.image.specs.Sizes.{request_block}
use Rattle.image.specs.State.{entry_block, stored_ids, stored_index}
use Rattle.calls.specs.Storing.{Further, same, put_id, put-entry}

-- the bit of the k-th block in an order
abbrev pub bit_at : ℕ → ℕ
bit_at zero = 1
bit_at (suc k) = 2 * bit_at k

-- an ID or an entry that stood there already tells none
abbrev pub further_told : List ℕ → Further → ℕ
further_told im same = 0
further_told im (put_id place id) = pick (eqb (get_or (stored_ids im) place 0) id.0) 0 1
further_told im (put-entry place entry) = pick (eqb (get_or (stored_index im) place 0) entry) 0 (bit_at (entry_block place - request_block))
