-- W1 to W8's policies and goals are the bytes that are written out, by computing.
use mathlib.Core.Path.{refl}
use Rattle.weir.specs.Cases.Bytes.{WeirBytes}

pub weir_bytes_lem : WeirBytes
weir_bytes_lem =
    record {
      weir_is = refl;
      weir_allow41_is = refl;
      goal_g_is = refl;
      write_only_is = refl;
      except_three_is = refl;
      except_four_is = refl;
      end_type_one_is = refl;
      one_leg_is = refl;
      no_start_is = refl;
    }
