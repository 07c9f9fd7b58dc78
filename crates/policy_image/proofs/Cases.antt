-- What is written of named records and policies, byte by byte.
use Prim.Native.Nat.{◌+◌}
use mathlib.Core.List.{[], ◌∷◌}
use mathlib.Core.Path.{◌≡◌, refl}
use Rattle.policy_image.specs.Layout.{record_count, counts_of, policy_head, payload_of, decoded, record_of}
use Rattle.policy_image.specs.Policy.{policy_of}
use Rattle.policy_image.specs.Cases.Written.{allow}
use Rattle.policy_image.specs.Cases.Weir.{weir}
use Rattle.policy_image.specs.Encoding.{count_bytes, header_bytes, record_bytes, image_of}

-- the low byte of each number comes first, and each field has a place of its own
pub record_bytes_lem :
    record_bytes (record { next = 513; kind = 9; a = 10; b = 11; c = 12; d = 13; e = 14; mask = 67305985 })
    ≡ 1 ∷ 2 ∷ 9 ∷ 10 ∷ 11 ∷ 12 ∷ 13 ∷ 14 ∷ 1 ∷ 2 ∷ 3 ∷ 4 ∷ []
unfolding record_bytes
record_bytes_lem = refl

pub header_bytes_lem :
    header_bytes (record { types = 255; roles = 15; users = 14; classes = 31; records = 4095 }) (λ k. 256 + k)
    ≡ 255 ∷ 15 ∷ 14 ∷ 31 ∷ 255 ∷ 15 ∷ 1 ∷ 1 ∷ 2 ∷ 1 ∷ 3 ∷ 1 ∷ 4 ∷ 1 ∷ 5 ∷ 1 ∷ 6 ∷ 1 ∷ 7 ∷ 1 ∷ 8 ∷ 1 ∷ 9 ∷ 1 ∷ []
unfolding header_bytes count_bytes
header_bytes_lem = refl

-- the weir policy: its allow "2 on 1 read", and all of it
pub weir_record : record_bytes (record_of weir 6) ≡ allow 7 2 1 2 1
unfolding record_bytes record_of decoded payload_of
weir_record = refl

pub weir_written_lem : image_of (policy_of weir) ≡ weir
unfolding image_of header_bytes count_bytes record_bytes record_count counts_of policy_head record_of decoded payload_of
weir_written_lem = refl
