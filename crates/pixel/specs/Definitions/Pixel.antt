-- One pixel of a level buffer, without the whole picture (document 02, P6). Assumes nothing.
use Rattle.std.specs.Prelude.{cond, ◌&&◌, List, [], ◌∷◌, ℕ, ltb, eqb, ℤ, pos, length}
use Rattle.pyramid.specs.declared.Settings.{Settings}
use Rattle.pyramid.specs.Definitions.Sizes.{Level, total}
use Rattle.pyramid.specs.Definitions.Rebuilding.{rebuilt, clamp}
use Rattle.pyramid.specs.Definitions.Buffers.{all_levels, read_levels}
use Rattle.pyramid.specs.Definitions.Refusals.{unless, first, settings_refusal, values_ok}
use Rattle.pyramid.specs.Definitions.Calls.{leaves}
use Rattle.pixel.specs.declared.RebuiltPixel.{RebuiltPixel}
use Rattle.pixel.specs.Definitions.Windows.{in_window, nodes_read}

-- what the call answers: a refusal's number, the pixel, and the number of indices read, which are 0 where it is not 0
pub record PixelAnswer : Type 0 where
  pub refusal : ℕ
  pub pixel : ℕ
  pub read : ℕ

module _ (s : Settings) (column row : ℕ) where
  -- a level buffer with every index outside the windows taken as 0
  unfoldable pub window_index : List ℤ → ℕ → Level
  window_index levels l i j = cond (in_window s column row l i j) (read_levels s levels l i j) (pos 0)

  abbrev pub windows_alone : List ℤ → List ℤ
  windows_alone levels = all_levels s (window_index levels)

  -- the settings' numbers; 6: the level buffer's length is not T; 21: the pixel is outside the picture; 11: index times bin is outside ±4,096, of the
  -- indices in the windows alone
  unfoldable pub pixel_refusal : List ℤ → ℕ
  pixel_refusal levels =
      first (settings_refusal s
      ∷ unless (eqb (length levels) (total s)) 6
      ∷ unless (ltb column s.columns && ltb row s.rows) 21
      ∷ unless (values_ok s (windows_alone levels)) 11
      ∷ [])

  unfoldable pub pixel_answer : List ℤ → PixelAnswer
  pixel_answer levels =
      let refusal = pixel_refusal levels in
      record {
        refusal = refusal;
        pixel = leaves refusal (clamp s (rebuilt s (read_levels s (windows_alone levels)) 0 column row)) 0;
        read = leaves refusal (nodes_read s column row s.depth) 0;
      }

abbrev pub answered : PixelAnswer → RebuiltPixel
answered answer = record { pixel = answer.pixel; read = answer.read }
